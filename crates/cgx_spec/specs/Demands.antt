-- What is proved of the definitions: start here. Each field is one sentence of the papers, in the order 1 to 3 of the demands; `Promises` holds them all, and
-- proofs/Promises.antt proves it. Statements only.
use Rattle.std.specs.Prelude.{◌≡◌, ◌↔◌, Bool, true, cond, List, [], ◌∷◌, ◌++◌, map, ℕ, ◌+◌, ◌/◌, ◌%◌, ◌^◌, ◌≤◌, ◌<◌, T, leb, Float, ℤ, pos, length, set, None, Some, Ok, Err, slice_get}
use Rattle.std.specs.Int.Count.{count_trailing_zeros}
use Rattle.std.specs.Float.{fin, binary64}
use Rattle.std.specs.Float.Ieee.{fits}
use Rattle.cgx_spec.specs.declared.Kind.{Kind}
use Rattle.cgx_spec.specs.declared.Place.{Place}
use Rattle.cgx_spec.specs.Verdicts.{Verdict}
use Rattle.cgx_spec.specs.Verdicts.{accepted, refused}
use Rattle.cgx_spec.specs.declared.Real.TheVariants.{Exact, Inexact}
use Rattle.cgx_spec.specs.Numbers.{Bytes, short_of, long_of, longs_of, InRange, short_bytes, long_bytes}
use Rattle.cgx_spec.specs.Reals.{negative, exponent, mantissa, value, normal, IsNormal, answer, Means, answer_value}
use Rattle.cgx_spec.specs.Dates.{good_date}
use Rattle.cgx_spec.specs.Strings.{text_of, good_string}
use Rattle.cgx_spec.specs.Fields.{All, join, lengths_fit}
use Rattle.cgx_spec.specs.Kinds.{kind_of, type_for, good_flags, flags_of}
use Rattle.cgx_spec.specs.Order.{start}
use Rattle.cgx_spec.specs.Records.{Rec, size, bytes_of, pieces_of, Placed, view_meaning}
use Rattle.cgx_spec.specs.Files.{header, walk_of, verdict_of, Accepted, records_of, known, sequence, meanings, SameMeaning, normals, normal_form, views_of}
use Rattle.cgx_spec.specs.Walking.{first_place, Answer, seen, done, refused_at, ending, step_of, reads}
use Rattle.cgx_spec.specs.Written.{GoodFrom, place_all, AddedTo}
use Rattle.cgx_spec.specs.Restated.{type_byte, good_size, highest_flags, FlagsAlike, dates_at, IsString, RecordBefore, look_back}
use Rattle.cgx_spec.specs.Checks.{True}
use Rattle.cgx_spec.specs.Specimens.{Holds, specimens, Drawing, leap_seconds}

-- ---- demand 1: every file gets an answer

-- A refusal's number is in 01's table, from `lo` on.
abbrev pub NamedFrom : ℕ → Verdict → Type 0
NamedFrom lo (Ok _) = Unit {0}
NamedFrom lo (Err r) = (lo ≤ r.number) × (r.number ≤ 13)

-- A refused step names no place with 16, and a place with 3 to 13.
abbrev pub AnswerNamed : Answer → Type 0
AnswerNamed (seen v p) = Unit {0}
AnswerNamed done = Unit {0}
AnswerNamed (refused_at n None) = n ≡ 16
AnswerNamed (refused_at n (Some p)) = (3 ≤ n) × (n ≤ 13)

pub record Verdicts : Type 0 where
  -- Every file is accepted, or refused with a number from 1 to 13.
  pub named : (f : List ℕ) → NamedFrom 1 (verdict_of f)
  -- A step from any place, a made-up one too, gives a record, is done, or is refused: with 16 and no place, or with 3 to 13 and a place.
  pub steps-named : (f : List ℕ) (p : Place) → AnswerNamed (step_of f p)
  -- "Each is given exactly then": the verdict is true by 01's checks stated one by one (`Checks`),
  pub truth : (f : List ℕ) → Bytes f → True f (verdict_of f)
  -- and no other verdict is.
  pub only : (f : List ℕ) → Bytes f → (v : Verdict) → True f v → v ≡ verdict_of f

-- ---- demand 2: what is read, and read back

pub record Reading : Type 0 where
  -- An accepted file is its first four bytes and the bytes of its records, one after another.
  pub whole : (f : List ℕ) → Bytes f → Accepted f → f ≡ header ++ join bytes_of (records_of f)
  -- Offsets and contexts are those that the records have one after another.
  pub places : (f : List ℕ) → Bytes f → Accepted f → (walk_of f).records ≡ place_all start 4 (records_of f)
  -- Step after step from the start gives exactly the views of the known records and then the verdict, for every file that begins well.
  pub steps : (bs : List ℕ) → let f = header ++ bs in reads (length f) f (step_of f first_place) ≡ record { views = views_of f; last = ending (verdict_of f) }
  -- What is read is what is meant: the meanings of the views, in order, are those of the sequence, of which demand 3 and the writer's round trip speak.
  pub views-mean : (f : List ℕ) → map view_meaning (views_of f) ≡ meanings (sequence f)
  -- Good records in an allowed order, written in normal form, make an accepted file of those records and their meaning.
  pub back : (rs : List Rec) → GoodFrom start 4 rs → let f = header ++ join bytes_of (normals (known rs)) in Accepted f × (records_of f ≡ normals (known rs)) × (meanings (sequence f) ≡ meanings (known rs))

-- ---- demand 3: one normal form

pub record Demand3 : Type 0 where
  -- "Every accepted file has one normal form, accepted"
  pub form-accepted : (f : List ℕ) → Bytes f → Accepted f → Accepted (normal_form f)
  -- "and of the same meaning;"
  pub form-means : (f : List ℕ) → Bytes f → Accepted f → SameMeaning (normal_form f) f
  -- "two accepted files mean the same exactly when their normal forms are equal byte for byte;"
  pub form-unique : (f g : List ℕ) → Bytes f → Bytes g → Accepted f → Accepted g → SameMeaning f g ↔ (normal_form f ≡ normal_form g)
  -- "it is idempotent;"
  pub form-again : (f : List ℕ) → Bytes f → Accepted f → normal_form (normal_form f) ≡ normal_form f
  -- "added unknown records change neither acceptance nor normal form."
  pub form-added : (f g : List ℕ) → Bytes f → Accepted f → AddedTo f g → Accepted g × (normal_form g ≡ normal_form f)

-- ---- the numbers under it all

pub record NumberPromises : Type 0 where
  -- Shorts and longs are read back as written, from −1 to the lowest number, and written as they were read.
  pub short_back : (z : ℤ) → InRange (2 ^ 15) z → short_of (short_bytes z) ≡ z
  pub long-back : (z : ℤ) → InRange (2 ^ 31) z → long_of (long_bytes z) ≡ z
  pub short-bytes : (b : List ℕ) → Bytes b → length b ≡ 2 → short_bytes (short_of b) ≡ b
  pub long-bytes : (b : List ℕ) → Bytes b → length b ≡ 4 → long_bytes (long_of b) ≡ b
  -- As many longs are read as the bytes hold.
  pub longs-count : (b : List ℕ) → length (longs_of b) ≡ length b / 4

pub record RealPromises : Type 0 where
  -- The normal real is normal, of the same value, and the only one so.
  pub normal-is : (w : ℕ) → IsNormal (normal w)
  pub normal-value : (w : ℕ) → value (normal w) ≡ value w
  pub normal-only : (w v : ℕ) → v < 2 ^ 64 → IsNormal v → value v ≡ value w → v ≡ normal w
  -- An Exact answer's double has exactly the real's value, and is not −0.
  pub exact-means : (w : ℕ) (x : Float) → answer w ≡ Exact x → T (fits binary64 x) × Means x (value w) × (x ≡ fin true 0 (pos 0) → ⊥)
  -- Exact precisely when m without its trailing zero bits is below 2^53,
  pub exact-when : (w : ℕ) → ((x : Float) × (answer w ≡ Exact x)) ↔ (mantissa w / 2 ^ count_trailing_zeros 64 (mantissa w) < 2 ^ 53)
  -- and precisely when some double has that value.
  pub exact-some : (w : ℕ) → ((x : Float) × (answer w ≡ Exact x)) ↔ ((x : Float) × T (fits binary64 x) × Means x (value w))
  -- Either answer means the real's value,
  pub answer-value : (w : ℕ) → answer_value (answer w) ≡ value w
  -- and Inexact keeps sign, e and m.
  pub inexact-keeps : (w : ℕ) (s : Bool) (e m : ℕ) → answer w ≡ Inexact s e m → (s ≡ negative w) × (e ≡ exponent w) × (m ≡ mantissa w)

-- ---- the definitions agree with 01 stated a second time

-- Each context is what looking back at the known records before it says.
abbrev pub LooksBack : List RecordBefore → List Placed → Type 0
LooksBack bs [] = Unit {0}
LooksBack bs (p ∷ ps) =
    (p.context ≡ look_back bs) × LooksBack (elim (kind_of p.rec.type) [ None ↦ bs | Some k ↦ record { kind = k; at = p.at } ∷ bs ]) ps

pub record Agreement : Type 0 where
  -- The kinds are those of 01's type bytes, which are also those that are written, and no other type has one.
  pub types : (k : Kind) → kind_of (type_byte k) ≡ Some k
  pub types-written : (k : Kind) → type_for k ≡ type_byte k
  pub unknown : (t : ℕ) → 11 ≤ t → kind_of t ≡ None
  -- The fields of a record fit exactly when its size is one that 01 gives for its kind.
  pub sizes : (k : Kind) (r : Rec) → length r.body % 2 ≡ 0 → length r.body ≤ 65530 → lengths_fit (pieces_of k r) ≡ good_size k r.flags (size r)
  -- Flags are allowed up to 01's highest, and are alike where 01 says so.
  pub flags : (k : Kind) (fl : ℕ) → fl < 256 → good_flags k fl ≡ leb fl (highest_flags k)
  pub flags-alike : (k : Kind) (x y : ℕ) → x < 256 → y < 256 → (flags_of k x ≡ flags_of k y) ↔ FlagsAlike k x y
  -- A field is a string exactly when it is a text without zero bytes and its padding, and then that is its text.
  pub strings : (b : List ℕ) → (good_string b ≡ true) ↔ IsString b (text_of b)
  pub texts : (b t : List ℕ) → IsString b t → text_of b ≡ t
  -- The context of every record, in every file, is what the records before it say.
  pub contexts : (f : List ℕ) → LooksBack [] (walk_of f).records
  -- Same meaning is "equally many records and, for every k," the same meaning of the k-th.
  pub each : (f g : List ℕ) → let ms = meanings (sequence f) in let ns = meanings (sequence g) in SameMeaning f g ↔ ((length ms ≡ length ns) × ((k : ℕ) → slice_get ms k ≡ slice_get ns k))

-- ---- Req 02: "Seconds 0 to 60 are accepted in all dates, by reader and writer; 61 is refused with 9." (The writer: `GivenSeconds` in `cgx_write_given`.)

pub record Seconds : Type 0 where
  -- A good date stays one with any second up to 60, and with no other.
  pub date : (b : List ℕ) → length b ≡ 8 → good_date b ≡ true → (s : ℕ) → good_date (set b 6 s) ≡ leb s 60
  -- So does an accepted file: with a byte s as the second of any date of any of its records it is accepted up to 60, and else refused with 9 at that record.
  pub file : (f : List ℕ) → Bytes f → Accepted f → (earlier : List Rec) (r : Rec) (later : List Rec) → records_of f ≡ earlier ++ (r ∷ later)
      → (k : Kind) → kind_of r.type ≡ Some k → (s : ℕ) → s < 256
      → let at = 4 + length (join bytes_of earlier) in All (λ date. verdict_of (set f (at + date + 6) s) ≡ cond (leb s 60) accepted (refused 9 at)) (dates_at k)
  -- A drawing with second 60 in each of its four dates is its own normal form, and with 61 it is refused.
  pub specimens : All Holds leap_seconds

-- ---- all of it

pub record Promises : Type 0 where
  pub verdicts : Verdicts
  pub reading : Reading
  pub demand3 : Demand3
  pub numbers : NumberPromises
  pub reals : RealPromises
  pub agreement : Agreement
  -- 01's specimens marked P, and its file of 96 bytes.
  pub specimens : All Holds specimens
  pub drawing : Drawing
  pub seconds : Seconds
