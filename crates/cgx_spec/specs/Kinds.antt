-- 01, "The eleven records": the kinds by their type bytes, their flags, and the fields of their bodies. Definitions only.
use Rattle.std.specs.Prelude.{◌≡◌, Bool, true, cond, List, [], ◌∷◌, ℕ, ◌+◌, ◌*◌, ◌/◌, ◌%◌, leb, eqb, slice_get, Option, None, Some, Result, MatchResult}
use Rattle.cgx_spec.specs.declared.Kind.{Kind}
use Rattle.cgx_spec.specs.declared.Kind.TheVariants.{Library, Struct, Cprpty, Property, Layer, Box, Poly, Wire, Text, Sref, Endlib}
use Rattle.cgx_spec.specs.declared.UnknownType.{UnknownType}
use Rattle.cgx_spec.specs.Fields.{any, counts, ordered, closed, Field, real, positive, date, short, longs, string, optional, absent}

-- The kinds in the order of their type bytes, 0 to 10. "Types 11 to 255 are unknown."
unfoldable pub kind_of : ℕ → Option Kind
kind_of t = slice_get (Library ∷ Struct ∷ Cprpty ∷ Property ∷ Layer ∷ Box ∷ Poly ∷ Wire ∷ Text ∷ Sref ∷ Endlib ∷ []) t

-- The type byte of a kind.
abbrev pub type_for : Kind → ℕ
type_for Library = 0
type_for Struct = 1
type_for Cprpty = 2
type_for Property = 3
type_for Layer = 4
type_for Box = 5
type_for Poly = 6
type_for Wire = 7
type_for Text = 8
type_for Sref = 9
type_for Endlib = 10

-- What the conversion of a type byte gives: the kind that it is, or the byte itself where it is none.
abbrev pub Converts : ℕ → Result Kind UnknownType → Type 0
Converts t r = MatchResult r (λ k. kind_of t ≡ Some k) (λ e. (kind_of t ≡ None) × (e.0 ≡ t))

-- ---- flags

-- What a kind's flags byte is.
pub data Flags : Type 0 where
  -- "mean nothing"
  meaningless : Flags
  -- any number, and it is kept: LIBRARY's version
  version : Flags
  -- a number up to this one: WIRE's end style, SREF's bits
  up_to : ℕ → Flags
  -- a TEXT's turns and places
  orientation : Flags

abbrev pub flags_for : Kind → Flags
flags_for Library = version
flags_for Struct = meaningless
flags_for Cprpty = meaningless
flags_for Property = meaningless
flags_for Layer = meaningless
flags_for Box = meaningless
flags_for Poly = meaningless
flags_for Wire = up_to 2
flags_for Text = orientation
flags_for Sref = up_to 15
flags_for Endlib = meaningless

-- Rule 7: the flags that are allowed.
abbrev pub allows : Flags → ℕ → Bool
allows meaningless fl = true
allows version fl = true
allows (up_to n) fl = leb fl n
allows orientation fl = true

-- A TEXT's "horizontal and vertical place, where 0 and 3 mean the same".
abbrev pub text_place : ℕ → ℕ
text_place p = cond (eqb p 3) 0 p

unfoldable pub text_flags : ℕ → ℕ
text_flags fl = fl % 16 + 16 * text_place (fl / 16 % 4) + 64 * text_place (fl / 64 % 4)

-- What the flags mean, which is also how the normal form has them: "meaningless flags are zeroed, each TEXT place 3 becomes 0".
abbrev pub meant : Flags → ℕ → ℕ
meant meaningless fl = 0
meant version fl = fl
meant (up_to n) fl = fl
meant orientation fl = text_flags fl

abbrev pub good_flags : Kind → ℕ → Bool
good_flags k fl = allows (flags_for k) fl

abbrev pub flags_of : Kind → ℕ → ℕ
flags_of k fl = meant (flags_for k) fl

-- ---- bodies, in the order of 01's table

-- "angle if flag 1; magnif if 2; cols, rows and two points if 8". Flag 4, reflection, has no field.
abbrev pub angle : ℕ → Bool
angle fl = eqb (fl % 2) 1

abbrev pub magnif : ℕ → Bool
magnif fl = eqb (fl / 2 % 2) 1

abbrev pub array : ℕ → Bool
array fl = eqb (fl / 8 % 2) 1

abbrev pub only_if : Bool → Field → Field
only_if b f = cond b f absent

abbrev pub long : Field
long = longs 1 1 1 any

abbrev pub count : Field
count = longs 1 1 1 counts

abbrev pub point : Field
point = longs 2 1 1 any

-- The fields of a record with these flags.
unfoldable pub layout : Kind → ℕ → List Field
-- munit, uunit; two dates; name
layout Library fl = positive ∷ positive ∷ date ∷ date ∷ string ∷ []
-- two dates; name
layout Struct fl = date ∷ date ∷ string ∷ []
-- property number; string
layout Cprpty fl = long ∷ string ∷ []
layout Property fl = long ∷ string ∷ []
-- number, data type; name or nothing
layout Layer fl = short ∷ short ∷ optional ∷ []
-- "1 to 4,095 boxes" of left, bottom, right, top
layout Box fl = longs 4 1 4095 ordered ∷ []
-- "4 to 8,191 pairs"
layout Poly fl = longs 2 4 8191 closed ∷ []
-- width; "1 to 8,190 pairs"
layout Wire fl = long ∷ longs 2 1 8190 any ∷ []
-- x, y, width; label
layout Text fl = long ∷ long ∷ long ∷ string ∷ []
-- x, y; angle; magnif; cols, rows, two points; name
layout Sref fl =
    long ∷ long ∷ only_if (angle fl) real ∷ only_if (magnif fl) positive ∷ only_if (array fl) count ∷ only_if (array fl) count ∷ only_if (array fl) point
    ∷ only_if (array fl) point
    ∷ string
    ∷ []
layout Endlib fl = []
