-- What a call of the writer gives: a kind, flags, and an item for each field. What it means, the rules on it, and the record that is written. Definitions only.
use Rattle.std.specs.Prelude.{Bool, true, false, not, ◌&&◌, ◌||◌, cond, List, [], ◌∷◌, ◌++◌, map, ℕ, ◌/◌, ◌%◌, ◌-◌, leb, eqb, ℤ, length, take, drop, None, Option, Some}
use Rattle.std.specs.Int.Signed.{le_z}
use Rattle.cgx_spec.specs.declared.Kind.{Kind}
use Rattle.cgx_spec.specs.declared.Kind.TheVariants.{Library, Struct, Cprpty, Property, Layer, Box, Poly, Wire, Text, Sref, Endlib}
use Rattle.cgx_spec.specs.Numbers.{short_bytes}
use Rattle.cgx_spec.specs.Reals.{real_of, positive_real, normal_real}
use Rattle.cgx_spec.specs.Dates.{calendar}
use Rattle.cgx_spec.specs.Strings.{padded}
use Rattle.cgx_spec.specs.Fields.{any, counts, ordered, closed, Test, Field, real, positive, date, short, longs, string, optional, absent, Value, missing, exactly, numbers, text, ones, in_order, rule_of, join}
use Rattle.cgx_spec.specs.Kinds.{flags_of, layout, angle, magnif, array, type_for}
use Rattle.cgx_spec.specs.Records.{Rec, Meaning}
use Rattle.cgx_format_kinds.specs.declared.Date.{Date}
use Rattle.cgx_format_kinds.specs.declared.LayerNo.{LayerNo}
use Rattle.cgx_format_kinds.specs.declared.DataType.{DataType}
use Rattle.cgx_format_kinds.specs.declared.Point.{Point}
use Rattle.cgx_format_kinds.specs.Meant.{date_numbers}
use Rattle.cgx_format_fields.specs.Zeros.{no_zero}
use Rattle.buffers.specs.Put.{longs_bytes}
use Rattle.cgx_write_given.specs.declared.Owner.{Owner}
use Rattle.cgx_write_given.specs.declared.Owner.TheVariants.{Cell, Object}
use Rattle.cgx_format_kinds.specs.declared.Grid.{Grid}

-- ---- what is given for a field

pub data Item : Type 0 where
  -- "Reals are given as their eight bytes"
  eight : List ℕ → Item
  day : Date → Item
  small : ℤ → Item
  -- boxes, pairs, or the longs of one field
  list : List ℤ → Item
  -- a text, without its zero bytes
  words : List ℕ → Item
  nothing : Item

-- What it means.
unfoldable pub means : Item → Value
means (eight b) = exactly (real_of b)
means (day d) = date_numbers d
means (small z) = numbers (z ∷ [])
means (list zs) = numbers zs
means (words t) = text t
means nothing = missing

-- A date's bytes: the year, the five numbers, "and a zero byte".
unfoldable pub date_bytes : Date → List ℕ
date_bytes d = short_bytes d.year ++ (d.month ∷ d.day ∷ d.hour ∷ d.minute ∷ d.second ∷ 0 ∷ [])

-- The bytes that are stored for it, "in normal form".
unfoldable pub stored : Item → List ℕ
stored (eight b) = normal_real b
stored (day d) = date_bytes d
stored (small z) = short_bytes z
stored (list zs) = longs_bytes zs
stored (words t) = padded t
stored nothing = []

-- ---- the rules on what is given: `calendar`, `positive_real`, `ones`, `in_order` and `no_zero` are the reader's own

-- 8: "Too few boxes or pairs, or a list that ends inside one"; too many is 15.
unfoldable pub groups : Field → List ℤ → Bool
groups real zs = true
groups positive zs = true
groups date zs = true
groups short zs = true
groups (longs n lo hi t) zs = eqb (length zs % n) 0 && leb lo (length zs / n)
groups string zs = true
groups optional zs = true
groups absent zs = true

unfoldable pub enough : Field → Item → Bool
enough f (eight b) = true
enough f (day d) = true
enough f (small z) = true
enough f (list zs) = groups f zs
enough f (words t) = true
enough f nothing = true

-- The same numbers.
unfoldable pub alike : List ℤ → List ℤ → Bool
alike [] [] = true
alike [] (y ∷ ys) = false
alike (x ∷ xs) [] = false
alike (x ∷ xs) (y ∷ ys) = le_z x y && le_z y x && alike xs ys

-- What a field asks of its longs. 12: the first point is the last.
unfoldable pub meets : Test → List ℤ → Bool
meets any zs = true
meets counts zs = ones zs
meets ordered zs = in_order zs
meets closed zs = alike (take 2 zs) (drop (length zs - 2) zs)

unfoldable pub good_list : Field → List ℤ → Bool
good_list real zs = true
good_list positive zs = true
good_list date zs = true
good_list short zs = true
good_list (longs n lo hi t) zs = meets t zs
good_list string zs = true
good_list optional zs = true
good_list absent zs = true

-- What the rule of a field asks of its item, of a text that it has no zero byte (11); a field that has no rule (`rule_of` is 0) is not looked at.
unfoldable pub good_item : Field → Item → Bool
good_item f (eight b) = positive_real b
good_item f (day d) = calendar (date_bytes d)
good_item f (small z) = true
good_item f (list zs) = good_list f zs
good_item f (words t) = no_zero t
good_item f nothing = true

abbrev pub keeping : ℕ → Field → Item → Bool
keeping n f i = not (eqb n (rule_of f)) || good_item f i

-- Each field with what is given for it.
abbrev pub pairwise : (Field → Item → Bool) → List Field → List Item → Bool
pairwise p [] is = true
pairwise p (f ∷ fs) [] = true
pairwise p (f ∷ fs) (i ∷ is) = p f i && pairwise p fs is

-- ---- a call

pub record Given : Type 0 where
  pub kind : Kind
  pub flags : ℕ
  pub items : List Item

abbrev pub fields_of : Given → List Field
fields_of g = layout g.kind g.flags

-- 8 to 12 of a call.
unfoldable pub enough_given : Given → Bool
enough_given g = pairwise enough (fields_of g) g.items

unfoldable pub keeps_given : ℕ → Given → Bool
keeps_given n g = pairwise (keeping n) (fields_of g) g.items

-- What the record means that is asked for. A body's last value is that of what is left over of it, which is nothing.
unfoldable pub meant : Given → Meaning
meant g = record { kind = g.kind; flags = flags_of g.kind g.flags; fields = map means g.items ++ (missing ∷ []) }

-- The record that is written.
unfoldable pub written : Given → Rec
written g = record { type = type_for g.kind; flags = flags_of g.kind g.flags; body = join stored g.items }

-- ---- the calls of each kind: what they give

-- "A wire may be written without an end style", and Req 08: it "gets style 2", where 01 has flush (0).
abbrev pub default_style : ℕ
default_style = 2

abbrev pub style_of : Option ℕ → ℕ
style_of None = default_style
style_of (Some s) = s

abbrev pub optional_text : Option (List ℕ) → Item
optional_text None = nothing
optional_text (Some t) = words t

abbrev pub long : ℤ → Item
long z = list (z ∷ [])

abbrev pub point : Point → Item
point p = list (p.x ∷ p.y ∷ [])

-- "a field whose SREF flag is off is ignored"
abbrev pub if_set : Bool → Item → Item
if_set b i = cond b i nothing

unfoldable pub given_library : ℕ → List ℕ → List ℕ → Date → Date → List ℕ → Given
given_library version munit uunit created modified name =
    record { kind = Library; flags = version; items = eight munit ∷ eight uunit ∷ day created ∷ day modified ∷ words name ∷ [] }

unfoldable pub given_struct : Date → Date → List ℕ → Given
given_struct created modified name = record { kind = Struct; flags = 0; items = day created ∷ day modified ∷ words name ∷ [] }

abbrev pub property_kind : Owner → Kind
property_kind Cell = Cprpty
property_kind Object = Property

unfoldable pub given_owned : Owner → ℤ → List ℕ → Given
given_owned owner number value = record { kind = property_kind owner; flags = 0; items = long number ∷ words value ∷ [] }

abbrev pub given_cprpty : ℤ → List ℕ → Given
given_cprpty number value = given_owned Cell number value

abbrev pub given_property : ℤ → List ℕ → Given
given_property number value = given_owned Object number value

unfoldable pub given_layer : LayerNo → DataType → Option (List ℕ) → Given
given_layer number datatype name =
    record { kind = Layer; flags = 0; items = small number.0 ∷ small datatype.0 ∷ optional_text name ∷ [] }

unfoldable pub given_box : List ℤ → Given
given_box sides = record { kind = Box; flags = 0; items = list sides ∷ [] }

unfoldable pub given_poly : List ℤ → Given
given_poly points = record { kind = Poly; flags = 0; items = list points ∷ [] }

unfoldable pub given_wire : Option ℕ → ℤ → List ℤ → Given
given_wire style width points = record { kind = Wire; flags = style_of style; items = long width ∷ list points ∷ [] }

unfoldable pub given_text : ℕ → Point → ℤ → List ℕ → Given
given_text flags at width label =
    record { kind = Text; flags = flags; items = long at.x ∷ long at.y ∷ long width ∷ words label ∷ [] }

unfoldable pub given_sref : ℕ → Point → List ℕ → List ℕ → Grid → List ℕ → Given
given_sref fl at turn scale grid name =
    record {
      kind = Sref;
      flags = fl;
      items = long at.x ∷ long at.y ∷ if_set (angle fl) (eight turn) ∷ if_set (magnif fl) (eight scale) ∷ if_set (array fl) (long grid.cols)
          ∷ if_set (array fl) (long grid.rows)
          ∷ if_set (array fl) (point grid.across)
          ∷ if_set (array fl) (point grid.up)
          ∷ words name
          ∷ [];
    }

unfoldable pub given_endlib : Given
given_endlib = record { kind = Endlib; flags = 0; items = [] }
