-- Views in a C caller's memory: the words of eight bytes, the low byte first, that a `cgx_view` of include/cgx.h is made of. Definitions only.
use Rattle.std.specs.Prelude.{List, [], ◌∷◌, ◌++◌, ℕ, ◌+◌, ◌*◌, ◌^◌, ℤ, None, Option, Some}
use Rattle.cgx_spec.specs.declared.Kind.{Kind}
use Rattle.cgx_spec.specs.declared.Run.{Run}
use Rattle.cgx_spec.specs.Numbers.{untwos}
use Rattle.cgx_spec.specs.Kinds.{type_for}
use Rattle.cgx_format_kinds.specs.declared.TextSpan.{TextSpan}
use Rattle.cgx_format_kinds.specs.declared.Date.{Date}
use Rattle.cgx_format_kinds.specs.declared.Point.{Point}
use Rattle.cgx_format_kinds.specs.declared.ItemList.{ItemList}
use Rattle.cgx_format_kinds.specs.declared.Grid.{Grid}
use Rattle.cgx_format_kinds.specs.declared.Fields.{Fields}
use Rattle.cgx_format_kinds.specs.declared.Fields.TheVariants.{Library, Struct, Cprpty, Property, Layer, Box, Poly, Wire, Text, Sref, Endlib}
use Rattle.cgx_format_kinds.specs.declared.View.{View}
use Rattle.cgx_format_cursor.specs.Cursors.{offset_number, run_first, run_count}
use Rattle.cgx_format_sref.specs.Layouts.{sref_layout}
use Rattle.cgx_read_fields.specs.Views.{word_at}
use Rattle.cgx_spec.specs.declared.Real.{Real}

-- The bits of a long and of a short, in two's complement.
abbrev pub long_bits : ℤ → ℕ
long_bits z = untwos (2 ^ 31) z

abbrev pub short_bits : ℤ → ℕ
short_bits z = untwos (2 ^ 15) z

-- Two longs are in one word.
unfoldable pub pair_word : ℤ → ℤ → ℕ
pair_word a b = long_bits a + 2 ^ 32 * long_bits b

unfoldable pub point_word : Point → ℕ
point_word p = pair_word p.x p.y

unfoldable pub date_word : Date → ℕ
date_word d =
    short_bits d.year + 2 ^ 16 * d.month + 2 ^ 24 * d.day + 2 ^ 32 * d.hour + 2 ^ 40 * d.minute + 2 ^ 48 * d.second

-- The offset of a text, and its length.
unfoldable pub span_words : TextSpan → List ℕ
span_words s = s.at ∷ s.len ∷ []

-- The offset of the first box or point, and how many.
unfoldable pub list_words : ItemList → List ℕ
list_words r = r.first ∷ r.count ∷ []

-- A real is its own eight bytes of the file, from byte b on, as one number.
unfoldable pub optional_word : List ℕ → ℕ → Option Real → ℕ
optional_word f b None = 0
optional_word f b (Some r) = word_at f b

-- Columns and rows, and the two points.
unfoldable pub array_words : Option Grid → List ℕ
array_words None = 0 ∷ 0 ∷ 0 ∷ []
array_words (Some g) = pair_word g.cols g.rows ∷ point_word g.across ∷ point_word g.up ∷ []

unfoldable pub layer_word : ℤ → ℤ → ℕ
layer_word number datatype = short_bits number + 2 ^ 16 * short_bits datatype

-- The layer's number, its datatype and whether it has a name; the name.
unfoldable pub layer_words : ℤ → ℤ → Option TextSpan → List ℕ
layer_words number datatype None = layer_word number datatype ∷ 0 ∷ 0 ∷ []
layer_words number datatype (Some s) = (layer_word number datatype + 2 ^ 32) ∷ span_words s

-- The words of a kind's fields, of a record of f with these flags at an offset: a union in C, of which no more is stored than the kind has.
unfoldable pub field_words : List ℕ → ℕ → ℕ → Fields → List ℕ
field_words f fl at (Library l) = word_at f (at + 4) ∷ word_at f (at + 12) ∷ date_word l.created ∷ date_word l.modified ∷ span_words l.name
field_words f fl at (Struct s) = date_word s.created ∷ date_word s.modified ∷ span_words s.name
field_words f fl at (Cprpty p) = long_bits p.number ∷ span_words p.value
field_words f fl at (Property p) = long_bits p.number ∷ span_words p.value
field_words f fl at (Layer l) = layer_words l.number.0 l.datatype.0 l.name
field_words f fl at (Box b) = list_words b.boxes
field_words f fl at (Poly p) = list_words p.points
field_words f fl at (Wire w) = long_bits w.width ∷ list_words w.points
field_words f fl at (Text t) = point_word t.at ∷ long_bits t.width ∷ span_words t.label
field_words f fl at (Sref s) =
    point_word s.at ∷ optional_word f (at + 12) s.angle ∷ optional_word f (at + (sref_layout fl).magnif) s.magnif ∷ array_words s.array ++ span_words s.name
field_words f fl at Endlib = []

-- The kind, which has the number of its type byte in C too, and the flags are in one word.
unfoldable pub head_word : Kind → ℕ → ℕ
head_word k flags = type_for k + 2 ^ 32 * flags

-- The six words that every kind has: 0 for a cell or a layer that is none, and a run of none is 0, 0.
unfoldable pub head_words : Kind → ℕ → ℕ → Option ℕ → Option ℕ → Option Run → List ℕ
head_words k flags at cell layer run = head_word k flags ∷ at ∷ offset_number cell ∷ offset_number layer ∷ run_first run ∷ run_count run ∷ []

-- The words of a view of f: those, then its fields.
unfoldable pub view_words : List ℕ → View → List ℕ
view_words f v = head_words v.kind v.flags v.at v.cell v.layer v.run ++ field_words f v.flags v.at v.fields
