-- What is asked of a record before its fields are read, and its fields by their offsets in the file, as code has them. Definitions only.
use Rattle.std.specs.Prelude.{◌≡◌, Bool, true, cond, List, [], ◌∷◌, ℕ, ◌+◌, ◌*◌, ◌-◌, ◌≤◌, length, take, drop, None, Option, Some}
use Rattle.cgx_spec.specs.declared.Kind.{Kind}
use Rattle.cgx_spec.specs.declared.Real.{Real}
use Rattle.cgx_spec.specs.Numbers.{number, longs_of}
use Rattle.cgx_spec.specs.Reals.{answer}
use Rattle.cgx_spec.specs.Strings.{good_string}
use Rattle.cgx_spec.specs.Fields.{Field, real, absent, Value, missing, numbers, value, width, Piece, pieces, lengths_fit, keeps, values}
use Rattle.cgx_spec.specs.Kinds.{layout}
use Rattle.cgx_spec.specs.Walking.{Held, rec_at}
use Rattle.cgx_format_kinds.specs.declared.TextSpan.{TextSpan}
use Rattle.cgx_format_kinds.specs.declared.ItemList.{ItemList}
use Rattle.cgx_format_kinds.specs.declared.Grid.{Grid}
use Rattle.cgx_format_kinds.specs.declared.Fields.{Fields}
use Rattle.cgx_format_kinds.specs.declared.Fields.TheVariants.{Library, Struct, Cprpty, Property, Layer, Box, Poly, Wire, Text, Sref, Endlib}
use Rattle.cgx_format_sref.specs.Layouts.{sref_layout}
use Rattle.cgx_format_kinds.specs.Meant.{array_values, field_values, fields_kind}

-- A record whose fields have lengths that they may have (rule 8), and whose strings are good (rule 11).
pub record Readable (k : Kind) (fl : ℕ) (f : List ℕ) (at size : ℕ) : Type 0 where
  pub held : Held f at size
  pub fits : lengths_fit (pieces (layout k fl) (rec_at f at size).body) ≡ true
  pub texts : keeps 11 (pieces (layout k fl) (rec_at f at size).body) ≡ true

-- ---- fields by their offsets

-- The fields of a record of `size` bytes at `at`, those from its byte o on.
unfoldable pub pieces_at : List ℕ → ℕ → ℕ → List Field → ℕ → List Piece
pieces_at f at size [] o = record { field = absent; bytes = take (size - o) (drop (at + o) f) } ∷ []
pieces_at f at size (x ∷ xs) o =
    record { field = x; bytes = take (width x (size - o)) (drop (at + o) f) } ∷ pieces_at f at size xs (o + width x (size - o))

-- Their values, after the four bytes of the header.
unfoldable pub values_at : Kind → ℕ → List ℕ → ℕ → ℕ → List Value
values_at k fl f at size = values (pieces_at f at size (layout k fl) 4)

-- ---- where fields are: a text or a list begins at byte b, where its field does, and ends at byte e or before; a real is the answer of its own eight bytes

abbrev pub TextAt : ℕ → ℕ → TextSpan → Type 0
TextAt b e s = (s.at ≡ b) × (s.at + s.len ≤ e)

abbrev pub NameAt : ℕ → ℕ → Option TextSpan → Type 0
NameAt b e None = Unit {0}
NameAt b e (Some s) = TextAt b e s

-- Things of u bytes each.
abbrev pub ListAt : ℕ → ℕ → ℕ → ItemList → Type 0
ListAt u b e r = (r.first ≡ b) × (r.first + u * r.count ≤ e)

-- Eight bytes as one number, the first byte highest: the word of a real.
abbrev pub word_at : List ℕ → ℕ → ℕ
word_at f b = number (take 8 (drop b f))

abbrev pub real_at : List ℕ → ℕ → Real
real_at f b = answer (word_at f b)

abbrev pub AnswerAt : List ℕ → ℕ → Option Real → Type 0
AnswerAt f b None = Unit {0}
AnswerAt f b (Some r) = r ≡ real_at f b

-- Of a record with flags fl from byte `at` to e.
unfoldable pub FieldsAt : ℕ → List ℕ → ℕ → ℕ → Fields → Type 0
FieldsAt fl f at e (Library l) = (l.munit ≡ real_at f (at + 4)) × (l.uunit ≡ real_at f (at + 12)) × TextAt (at + 36) e l.name
FieldsAt fl f at e (Struct s) = TextAt (at + 20) e s.name
FieldsAt fl f at e (Cprpty p) = TextAt (at + 8) e p.value
FieldsAt fl f at e (Property p) = TextAt (at + 8) e p.value
FieldsAt fl f at e (Layer l) = NameAt (at + 8) e l.name
FieldsAt fl f at e (Box b) = ListAt 16 (at + 4) e b.boxes
FieldsAt fl f at e (Poly p) = ListAt 8 (at + 4) e p.points
FieldsAt fl f at e (Wire w) = ListAt 8 (at + 8) e w.points
FieldsAt fl f at e (Text t) = TextAt (at + 16) e t.label
FieldsAt fl f at e (Sref s) = AnswerAt f (at + 12) s.angle × AnswerAt f (at + (sref_layout fl).magnif) s.magnif × TextAt (at + (sref_layout fl).name) e s.name
FieldsAt fl f at e Endlib = Unit {0}

-- What the reader of a kind answers.
pub record ReadAt (k : Kind) (fl : ℕ) (f : List ℕ) (at size : ℕ) (r : Fields) : Type 0 where
  pub meant : field_values f r ≡ values_at k fl f at size
  pub located : FieldsAt fl f at (at + size) r
  pub kind-is : fields_kind r ≡ k

-- Of a kind whose fields are the same under all flags.
abbrev pub ReadAlike : Kind → List ℕ → ℕ → ℕ → Fields → Type 0
ReadAlike k f at size r = (fl : ℕ) → ReadAt k fl f at size r

-- ---- strings

-- A string of `len` bytes.
pub record StringAt (f : List ℕ) (at len : ℕ) : Type 0 where
  pub least : 2 ≤ len
  pub inside : at + len ≤ length f
  pub good : good_string (take len (drop at f)) ≡ true

-- A string, or nothing.
pub record OptionalAt (f : List ℕ) (at len : ℕ) : Type 0 where
  pub inside : at + len ≤ length f
  pub named : (len ≡ 0 → ⊥) → StringAt f at len

-- ---- the fields that an SREF may not have

-- A real, or none.
unfoldable pub real_if : Bool → List ℕ → ℕ → Value
real_if s f at = cond s (value real (take 8 (drop at f))) missing

-- Columns, rows and two points from byte o of a record on, or none, and the fields after them.
unfoldable pub array_if : Bool → List ℕ → ℕ → ℕ → List Value → List Value
array_if s f at o vs =
    cond s
    (numbers (longs_of (take 4 (drop (at + o) f))) ∷ numbers (longs_of (take 4 (drop (at + (o + 4)) f)))
    ∷ numbers (longs_of (take 8 (drop (at + (o + 8)) f)))
    ∷ numbers (longs_of (take 8 (drop (at + (o + 16)) f)))
    ∷ vs)
    (missing ∷ missing ∷ missing ∷ missing ∷ vs)

abbrev pub ArrayIs : Bool → List ℕ → ℕ → ℕ → Option Grid → Type 0
ArrayIs s f at o r = (vs : List Value) → array_values r vs ≡ array_if s f at o vs
