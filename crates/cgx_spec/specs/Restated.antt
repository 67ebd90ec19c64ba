-- 01's figures and rules stated a second time, from its words alone and not from the definitions; `Demands` says that the two agree. Definitions only.
use Rattle.std.specs.Prelude.{◌≡◌, Bool, true, false, ◌&&◌, ◌||◌, cond, List, [], ◌∷◌, ◌++◌, ℕ, ◌+◌, ◌*◌, ◌/◌, ◌%◌, ◌-◌, ◌^◌, ◌≤◌, ◌<◌, leb, eqb, ℤ, length, get_or, ◌≤ℤ◌, None, Option, Some}
use Rattle.cgx_spec.specs.declared.Kind.{Kind}
use Rattle.cgx_spec.specs.declared.Kind.TheVariants.{Library, Struct, Cprpty, Property, Layer, Box, Poly, Wire, Text, Sref, Endlib}
use Rattle.cgx_spec.specs.declared.Run.{Run}
use Rattle.cgx_spec.specs.declared.Context.{Context}

-- ---- the table's columns

-- "type"
unfoldable pub type_byte : Kind → ℕ
type_byte Library = 0
type_byte Struct = 1
type_byte Cprpty = 2
type_byte Property = 3
type_byte Layer = 4
type_byte Box = 5
type_byte Poly = 6
type_byte Wire = 7
type_byte Text = 8
type_byte Sref = 9
type_byte Endlib = 10

-- An SREF's optional fields by its flags: "angle if flag 1; magnif if 2; cols, rows and two points if 8".
abbrev pub has_angle : ℕ → Bool
has_angle fl = eqb (fl % 2) 1

abbrev pub has_magnif : ℕ → Bool
has_magnif fl = eqb (fl / 2 % 2) 1

abbrev pub has_array : ℕ → Bool
has_array fl = eqb (fl / 8 % 2) 1

-- Where an SREF's magnif, its cols and its name begin: after size, type, flags, x and y, and 8 bytes for an angle, 8 for a magnif, 24 for an array.
abbrev pub magnif_at : ℕ → ℕ
magnif_at fl = 4 + 8 + cond (has_angle fl) 8 0

abbrev pub cols_at : ℕ → ℕ
cols_at fl = magnif_at fl + cond (has_magnif fl) 8 0

abbrev pub name_at : ℕ → ℕ
name_at fl = cols_at fl + cond (has_array fl) 24 0

-- From lo to hi things of u bytes each, after `base` bytes.
abbrev pub repeated : ℕ → ℕ → ℕ → ℕ → ℕ → Bool
repeated base u lo hi n = leb (base + u * lo) n && leb n (base + u * hi) && eqb ((n - base) % u) 0

-- "further rules" on the size n, of which it is known that it is even and from 4 to 65,534.
unfoldable pub good_size : Kind → ℕ → ℕ → Bool
good_size Library fl n = leb 38 n
good_size Struct fl n = leb 22 n
good_size Cprpty fl n = leb 10 n
good_size Property fl n = leb 10 n
good_size Layer fl n = leb 8 n
-- "1 to 4,095 boxes"
good_size Box fl n = repeated 4 16 1 4095 n
-- "4 to 8,191 pairs"
good_size Poly fl n = repeated 4 8 4 8191 n
-- "1 to 8,190 pairs", after the width
good_size Wire fl n = repeated 8 8 1 8190 n
good_size Text fl n = leb 18 n
-- "string ≥ 2 bytes"
good_size Sref fl n = leb (name_at fl + 2) n
-- "size 4"
good_size Endlib fl n = eqb n 4

-- "flags 0 to 2", "flags 0 to 15"; else any byte.
unfoldable pub highest_flags : Kind → ℕ
highest_flags Library = 255
highest_flags Struct = 255
highest_flags Cprpty = 255
highest_flags Property = 255
highest_flags Layer = 255
highest_flags Box = 255
highest_flags Poly = 255
highest_flags Wire = 2
highest_flags Text = 255
highest_flags Sref = 15
highest_flags Endlib = 255

-- ---- the table's columns: where the fields with a rule are, counted from the record's first byte

-- "two dates", of eight bytes each
unfoldable pub dates_at : Kind → List ℕ
-- after munit and uunit
dates_at Library = 20 ∷ 28 ∷ []
dates_at Struct = 4 ∷ 12 ∷ []
dates_at Cprpty = []
dates_at Property = []
dates_at Layer = []
dates_at Box = []
dates_at Poly = []
dates_at Wire = []
dates_at Text = []
dates_at Sref = []
dates_at Endlib = []

-- "both reals > 0", "magnif > 0": reals of eight bytes each, by kind and flags
unfoldable pub scales_at : Kind → ℕ → List ℕ
scales_at Library fl = 4 ∷ 12 ∷ []
scales_at Struct fl = []
scales_at Cprpty fl = []
scales_at Property fl = []
scales_at Layer fl = []
scales_at Box fl = []
scales_at Poly fl = []
scales_at Wire fl = []
scales_at Text fl = []
scales_at Sref fl = cond (has_magnif fl) (magnif_at fl ∷ []) []
scales_at Endlib fl = []

-- "cols, rows ≥ 1": longs, by kind and flags
unfoldable pub counts_at : Kind → ℕ → List ℕ
counts_at Library fl = []
counts_at Struct fl = []
counts_at Cprpty fl = []
counts_at Property fl = []
counts_at Layer fl = []
counts_at Box fl = []
counts_at Poly fl = []
counts_at Wire fl = []
counts_at Text fl = []
counts_at Sref fl = cond (has_array fl) (cols_at fl ∷ (cols_at fl + 4) ∷ []) []
counts_at Endlib fl = []

-- "left, bottom, right, top, repeated", up to the end of the record
unfoldable pub boxes_at : Kind → List ℕ
boxes_at Library = []
boxes_at Struct = []
boxes_at Cprpty = []
boxes_at Property = []
boxes_at Layer = []
boxes_at Box = 4 ∷ []
boxes_at Poly = []
boxes_at Wire = []
boxes_at Text = []
boxes_at Sref = []
boxes_at Endlib = []

-- names, property texts and labels, up to the end of the record, by kind, flags and size
unfoldable pub strings_at : Kind → ℕ → ℕ → List ℕ
-- after two reals and two dates
strings_at Library fl n = 36 ∷ []
strings_at Struct fl n = 20 ∷ []
strings_at Cprpty fl n = 8 ∷ []
strings_at Property fl n = 8 ∷ []
-- "name or nothing"
strings_at Layer fl n = cond (leb n 8) [] (8 ∷ [])
strings_at Box fl n = []
strings_at Poly fl n = []
strings_at Wire fl n = []
-- after x, y and width
strings_at Text fl n = 16 ∷ []
strings_at Sref fl n = name_at fl ∷ []
strings_at Endlib fl n = []

-- "x, y pairs" of which "first = last", up to the end of the record
unfoldable pub polygons_at : Kind → List ℕ
polygons_at Library = []
polygons_at Struct = []
polygons_at Cprpty = []
polygons_at Property = []
polygons_at Layer = []
polygons_at Box = []
polygons_at Poly = 4 ∷ []
polygons_at Wire = []
polygons_at Text = []
polygons_at Sref = []
polygons_at Endlib = []

-- ---- what flags mean

abbrev pub bit : ℕ → ℕ → Bool
bit n fl = eqb (fl / 2 ^ n % 2) 1

-- Where a TEXT lies from its anchor (001's left, center, right; bottom, center, top).
pub data Side : Type 0 where
  low : Side
  middle : Side
  high : Side

-- By the high and the low bit: "0 and 3 mean the same".
unfoldable pub side : Bool → Bool → Side
side false false = low
side false true = middle
side true false = high
side true true = low

-- "bits 0–1 quarter turns, bit 2 mirror, bit 3 adds 45 degrees, bits 4–5 horizontal and 6–7 vertical place"
pub record Orientation : Type 0 where
  pub turns : ℕ
  pub mirror : Bool
  pub eighth : Bool
  pub horizontal : Side
  pub vertical : Side

unfoldable pub orientation_of : ℕ → Orientation
orientation_of fl =
    record {
      turns = fl % 4;
      mirror = bit 2 fl;
      eighth = bit 3 fl;
      horizontal = side (bit 5 fl) (bit 4 fl);
      vertical = side (bit 7 fl) (bit 6 fl);
    }

-- Two flags bytes that mean the same: "Flags of the other kinds mean nothing".
abbrev pub FlagsAlike : Kind → ℕ → ℕ → Type 0
FlagsAlike Library x y = x ≡ y
FlagsAlike Struct x y = Unit {0}
FlagsAlike Cprpty x y = Unit {0}
FlagsAlike Property x y = Unit {0}
FlagsAlike Layer x y = Unit {0}
FlagsAlike Box x y = Unit {0}
FlagsAlike Poly x y = Unit {0}
FlagsAlike Wire x y = x ≡ y
FlagsAlike Text x y = orientation_of x ≡ orientation_of y
FlagsAlike Sref x y = x ≡ y
FlagsAlike Endlib x y = Unit {0}

-- ---- strings

abbrev pub NoZero : List ℕ → Type 0
NoZero t = (i : ℕ) → i < length t → get_or t i 0 ≡ 0 → ⊥

-- "One zero byte follows an odd-length text, two follow an even-length text."
abbrev pub zeros_after : List ℕ → List ℕ
zeros_after t = cond (eqb (length t % 2) 1) (0 ∷ []) (0 ∷ 0 ∷ [])

-- The field b is a string, and t its text.
pub record IsString (b t : List ℕ) : Type 0 where
  pub no_zero : NoZero t
  pub is : b ≡ t ++ zeros_after t

-- ---- dates and boxes

-- "month 1 to 12, day 1 to 31, hour 0 to 23, minute 0 to 59, .. and a zero byte." Of the second, Req 02: "The CGX page defines the field as the C library's tm_sec, whose
-- range is 0 to 60".
pub record IsDate (b : List ℕ) : Type 0 where
  pub month : (1 ≤ get_or b 2 0) × (get_or b 2 0 ≤ 12)
  pub day : (1 ≤ get_or b 3 0) × (get_or b 3 0 ≤ 31)
  pub hour : get_or b 4 0 ≤ 23
  pub minute : get_or b 5 0 ≤ 59
  pub second : get_or b 6 0 ≤ 60
  pub last : get_or b 7 0 ≡ 0

-- "left ≤ right, bottom ≤ top", of each box: left, bottom, right, top.
abbrev pub Boxes : List ℤ → Type 0
Boxes [] = Unit {0}
Boxes (l ∷ []) = Unit {0}
Boxes (l ∷ b ∷ []) = Unit {0}
Boxes (l ∷ b ∷ r ∷ []) = Unit {0}
Boxes (l ∷ b ∷ r ∷ t ∷ more) = (l ≤ℤ r) × (b ≤ℤ t) × Boxes more

-- ---- the context, by looking back at the known records already read, nearest first

pub record RecordBefore : Type 0 where
  pub kind : Kind
  pub at : ℕ

abbrev pub is : Kind → RecordBefore → Bool
is k b = eqb (type_byte k) (type_byte b.kind)

unfoldable pub library_before : List RecordBefore → Bool
library_before [] = false
library_before (b ∷ bs) = is Library b || library_before bs

-- The nearest STRUCT.
unfoldable pub cell_before : List RecordBefore → Option ℕ
cell_before [] = None
cell_before (b ∷ bs) = cond (is Struct b) (Some b.at) (cond (is Library b) None (cell_before bs))

-- The nearest LAYER, unless a STRUCT is nearer.
unfoldable pub layer_before : List RecordBefore → Option ℕ
layer_before [] = None
layer_before (b ∷ bs) = cond (is Layer b) (Some b.at) (cond (is Struct b || is Library b) None (layer_before bs))

-- STRUCT, with nothing but CPRPTY nearer.
unfoldable pub struct_before : List RecordBefore → Bool
struct_before [] = false
struct_before (b ∷ bs) = is Struct b || (is Cprpty b && struct_before bs)

-- The PROPERTY records with nothing nearer.
unfoldable pub properties_before : List RecordBefore → List RecordBefore
properties_before [] = []
properties_before (b ∷ bs) = cond (is Property b) (b ∷ properties_before bs) []

-- The offset of the farthest of them.
unfoldable pub farthest : RecordBefore → List RecordBefore → ℕ
farthest b [] = b.at
farthest b (c ∷ bs) = farthest c bs

unfoldable pub run_before : List RecordBefore → Option Run
run_before [] = None
run_before (b ∷ bs) = Some (record { first = farthest b bs; count = length (b ∷ bs) })

unfoldable pub end_before : List RecordBefore → Bool
end_before [] = false
end_before (b ∷ bs) = is Endlib b

unfoldable pub look_back : List RecordBefore → Context
look_back bs =
    record {
      library = library_before bs;
      cell = cell_before bs;
      layer = layer_before bs;
      fresh = struct_before bs;
      run = run_before (properties_before bs);
      ended = end_before bs;
    }
