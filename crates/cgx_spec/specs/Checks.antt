-- 01's refusals 1 to 13 as single checks, each stated by itself from 01's words (with `Restated`, and not by the walk that gives the verdict), and when a
-- verdict is true by them. `Demands` says that the verdict on every file is true, and no other. Definitions only.
use Rattle.std.specs.Prelude.{◌≡◌, ◌⊎◌, Bool, true, false, not, ◌||◌, cond, List, [], ◌∷◌, ◌++◌, ℕ, ◌+◌, ◌*◌, ◌-◌, ◌%◌, ◌≤◌, eqb, pos, length, take, drop, get_or, ◌≤ℤ◌, ◌<ℤ◌, None, Ok, Err}
use Rattle.cgx_spec.specs.declared.Kind.{Kind}
use Rattle.cgx_spec.specs.declared.Kind.TheVariants.{Library, Struct, Cprpty, Property, Layer, Box, Poly, Wire, Text, Sref, Endlib}
use Rattle.cgx_spec.specs.declared.Need.{Need}
use Rattle.cgx_spec.specs.declared.Need.TheVariants.{LibraryBefore, NoLibraryBefore, OpenCell, LayerInForce, NoneAwaiting, OnlyCprpty}
use Rattle.cgx_spec.specs.Verdicts.{Verdict}
use Rattle.cgx_spec.specs.Verdicts.{accepted, refused}
use Rattle.cgx_spec.specs.Numbers.{long_of, longs_of}
use Rattle.cgx_spec.specs.Reals.{real_of}
use Rattle.cgx_spec.specs.Fields.{All}
use Rattle.cgx_spec.specs.Restated.{type_byte, good_size, highest_flags, dates_at, scales_at, counts_at, boxes_at, strings_at, polygons_at, IsString, IsDate, Boxes, RecordBefore, library_before, cell_before, layer_before, struct_before, properties_before, end_before}

-- ---- lists

-- x is the first in a list of which P does not hold.
pub record FirstFails {A : Type 0} (P : A → Type 0) (l : List A) (x : A) : Type 0 where
  pub earlier : List A
  pub later : List A
  pub list : l ≡ earlier ++ (x ∷ later)
  pub hold : All P earlier
  pub fails : P x → ⊥

-- ---- the parts of the record at the beginning of some bytes

-- "size (short, header included ..), type byte, flags byte"
abbrev pub size_in : List ℕ → ℕ
size_in b = get_or b 0 0 * 256 + get_or b 1 0

abbrev pub type_in : List ℕ → ℕ
type_in b = get_or b 2 0

abbrev pub flags_in : List ℕ → ℕ
flags_in b = get_or b 3 0

-- All of its bytes.
abbrev pub record_in : List ℕ → List ℕ
record_in b = take (size_in b) b

-- The w bytes from an offset on.
abbrev pub part : ℕ → ℕ → List ℕ → List ℕ
part at w r = take w (drop at r)

-- ---- rule 6, need by need

-- The record has one of these kinds.
abbrev pub one_of : List Kind → ℕ → Bool
one_of [] t = false
one_of (k ∷ ks) t = eqb (type_byte k) t || one_of ks t

-- The records that have a need, by their types.
unfoldable pub asks : Need → ℕ → Bool
-- "LIBRARY is first": "not even an unknown record may precede it"
asks LibraryBefore t = not (one_of (Library ∷ []) t)
-- it is there "once"
asks NoLibraryBefore t = one_of (Library ∷ []) t
-- CPRPTY comes after a STRUCT, "PROPERTY needs an open cell", "LAYER needs a cell"; BOX, POLY, WIRE and TEXT need a layer, which is in a cell; "SREF only a cell"
asks OpenCell t = one_of (Cprpty ∷ Property ∷ Layer ∷ Box ∷ Poly ∷ Wire ∷ Text ∷ Sref ∷ []) t
-- "BOX, POLY, WIRE and TEXT need a layer"
asks LayerInForce t = one_of (Box ∷ Poly ∷ Wire ∷ Text ∷ []) t
-- PROPERTY "must be followed by PROPERTY or by BOX, POLY, WIRE, TEXT or SREF"; unknown ones "read as if they were absent"
asks NoneAwaiting t = one_of (Library ∷ Struct ∷ Cprpty ∷ Layer ∷ Endlib ∷ []) t
-- CPRPTY comes "after STRUCT with only CPRPTY between"
asks OnlyCprpty t = one_of (Cprpty ∷ []) t

-- The needs by the known records before, nearest first.
abbrev pub Met : List RecordBefore → Need → Type 0
Met bs LibraryBefore = library_before bs ≡ true
Met bs NoLibraryBefore = library_before bs ≡ false
Met bs OpenCell = cell_before bs ≡ None → ⊥
Met bs LayerInForce = layer_before bs ≡ None → ⊥
Met bs NoneAwaiting = properties_before bs ≡ []
Met bs OnlyCprpty = struct_before bs ≡ true

-- A need is met, if a record of this type has it.
abbrev pub Kept : List RecordBefore → ℕ → Need → Type 0
Kept bs t n = asks n t ≡ true → Met bs n

-- All needs.
abbrev pub needs : List Need
needs = LibraryBefore ∷ NoLibraryBefore ∷ OpenCell ∷ LayerInForce ∷ NoneAwaiting ∷ OnlyCprpty ∷ []

-- ---- the rules 9 to 12 of a record r of a kind

-- Each of its dates is one.
abbrev pub DatesGood : Kind → List ℕ → Type 0
DatesGood k r = All (λ at. IsDate (part at 8 r)) (dates_at k)

-- "scale, magnif": above 0; "cols, rows": at least 1; "reversed box": none.
pub record NumbersGood (k : Kind) (r : List ℕ) : Type 0 where
  pub scales : All (λ at. pos 0 <ℤ real_of (part at 8 r)) (scales_at k (flags_in r))
  pub counts : All (λ at. pos 1 ≤ℤ long_of (part at 4 r)) (counts_at k (flags_in r))
  pub boxes : All (λ at. Boxes (longs_of (drop at r))) (boxes_at k)

-- A field is a string where there is a text that it holds.
pub record HoldsText (b : List ℕ) : Type 0 where
  pub text : List ℕ
  pub is : IsString b text

-- Each of its strings is one.
abbrev pub StringsGood : Kind → List ℕ → Type 0
StringsGood k r = All (λ at. HoldsText (drop at r)) (strings_at k (flags_in r) (size_in r))

-- "first = last": the first point, of eight bytes, is the last eight bytes of the record.
abbrev pub PolygonsGood : Kind → List ℕ → Type 0
PolygonsGood k r = All (λ at. part at 8 r ≡ part (size_in r - 8) 8 r) (polygons_at k)

-- ---- the checks

pub data Check : Type 0 where
  -- of a file
  cgx_first : Check
  level_zero : Check
  -- of a record
  some_left : Check
  whole_header : Check
  size_good : Check
  size_inside : Check
  in_order : Check
  flags_good : Check
  body_length : Check
  dates_good : Check
  numbers_good : Check
  strings_good : Check
  poly_closed : Check
  -- after ENDLIB
  none_left : Check

-- The refusal that is given where a check fails.
abbrev pub number_of : Check → ℕ
number_of cgx_first = 1
number_of level_zero = 2
number_of some_left = 3
number_of whole_header = 4
number_of size_good = 5
number_of size_inside = 4
number_of in_order = 6
number_of flags_good = 7
number_of body_length = 8
number_of dates_good = 9
number_of numbers_good = 10
number_of strings_good = 11
number_of poly_closed = 12
number_of none_left = 13

-- What is asked of the kind whose type byte this is; of an unknown record nothing.
abbrev pub OfKind : ℕ → (Kind → Type 0) → Type 0
OfKind t P = (k : Kind) → t ≡ type_byte k → P k

-- The check passes, of the bytes b from its place on, after the known records bs.
abbrev pub Passes : List RecordBefore → List ℕ → Check → Type 0
-- 1: "under 4 bytes, or not `cgx`"
Passes bs b cgx_first = (4 ≤ length b) × (get_or b 0 0 ≡ 99) × (get_or b 1 0 ≡ 103) × (get_or b 2 0 ≡ 120)
-- 2: "level not 0"
Passes bs b level_zero = get_or b 3 0 ≡ 0
-- 3: "no bytes left before ENDLIB"
Passes bs b some_left = 1 ≤ length b
-- 4: "1 to 3 bytes left,"
Passes bs b whole_header = 4 ≤ length b
-- 5: "size odd or below 4"
Passes bs b size_good = (size_in b % 2 ≡ 0) × (4 ≤ size_in b)
-- 4: "or size runs past the end"
Passes bs b size_inside = size_in b ≤ length b
-- 6: "record not allowed here"
Passes bs b in_order = All (Kept bs (type_in b)) needs
-- 7: "flags not allowed"
Passes bs b flags_good = OfKind (type_in b) (λ k. flags_in b ≤ highest_flags k)
-- 8: "body length"
Passes bs b body_length = OfKind (type_in b) (λ k. good_size k (flags_in b) (size_in b) ≡ true)
-- 9: "date"
Passes bs b dates_good = OfKind (type_in b) (λ k. DatesGood k (record_in b))
-- 10: "a number rule: scale, magnif, cols, rows, reversed box"
Passes bs b numbers_good = OfKind (type_in b) (λ k. NumbersGood k (record_in b))
-- 11: "string"
Passes bs b strings_good = OfKind (type_in b) (λ k. StringsGood k (record_in b))
-- 12: "POLY not closed"
Passes bs b poly_closed = OfKind (type_in b) (λ k. PolygonsGood k (record_in b))
-- 13: "bytes after ENDLIB"
Passes bs b none_left = length b ≡ 0

-- "Order: 1, 2;"
abbrev pub file_checks : List Check
file_checks = cgx_first ∷ level_zero ∷ []

-- "then 6 to 12 ascending"
abbrev pub rule_checks : List Check
rule_checks = in_order ∷ flags_good ∷ body_length ∷ dates_good ∷ numbers_good ∷ strings_good ∷ poly_closed ∷ []

-- "per record fewer than four bytes (3 or 4), then 5, then 4 by size,"
abbrev pub record_checks : List Check
record_checks = some_left ∷ whole_header ∷ size_good ∷ size_inside ∷ rule_checks

-- After ENDLIB, or not.
abbrev pub checks_at : Bool → List Check
checks_at ended = cond ended (none_left ∷ []) record_checks

-- ---- records one after another

-- At this offset is a record that passes every check, after these known ones, of which the last is not ENDLIB.
pub record GoodAt (f : List ℕ) (bs : List RecordBefore) (at : ℕ) : Type 0 where
  pub running : end_before bs ≡ false
  pub good : All (Passes bs (drop at f)) record_checks

-- Good records, one after another, lead up to an offset; bs are the known ones, nearest first.
pub data GoodUpTo (f : List ℕ) : List RecordBefore → ℕ → Type 0 where
  -- "Its records begin at offset 4"
  begun : All (Passes [] f) file_checks → GoodUpTo f [] 4
  -- "and follow one another, each as long as its size says, up to ENDLIB."
  known_next : {bs : List RecordBefore} {at : ℕ} (k : Kind) → GoodUpTo f bs at → GoodAt f bs at → type_in (drop at f) ≡ type_byte k → GoodUpTo f (record { kind = k; at = at } ∷ bs) (at + size_in (drop at f))
  -- "Types 11 to 255 are unknown: skipped after LIBRARY"
  unknown_next : {bs : List RecordBefore} {at : ℕ} → GoodUpTo f bs at → GoodAt f bs at → 11 ≤ type_in (drop at f) → GoodUpTo f bs (at + size_in (drop at f))

-- ---- a true verdict

-- "none of refusals 1 to 13 applies"
pub record AllGood (f : List ℕ) : Type 0 where
  pub before : List RecordBefore
  -- Good records lead up to the end of the file,
  pub good : GoodUpTo f before (length f)
  -- and the last known one is ENDLIB.
  pub last : end_before before ≡ true

-- 1 and 2: the first check of the file's first four bytes that fails. The place named is 0.
pub record NotBegun (f : List ℕ) (n at : ℕ) : Type 0 where
  pub check : Check
  pub number : n ≡ number_of check
  pub place : at ≡ 0
  pub first : FirstFails (Passes [] f) file_checks check

-- 3 to 13: "The first bad record decides."
pub record Stopped (f : List ℕ) (n at : ℕ) : Type 0 where
  pub before : List RecordBefore
  -- Good records lead up to the place that is named,
  pub earlier : GoodUpTo f before at
  -- and there the first check that fails has this number.
  pub check : Check
  pub number : n ≡ number_of check
  pub first : FirstFails (Passes before (drop at f)) (checks_at (end_before before)) check

-- The verdict is true of the file.
abbrev pub True : List ℕ → Verdict → Type 0
True f (Ok _) = AllGood f
True f (Err r) = NotBegun f r.number r.at ⊎ Stopped f r.number r.at
