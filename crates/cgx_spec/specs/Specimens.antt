-- 01, "Specimens": those marked P as one list, and the file of 96 bytes under "Lister"; and that of Req 02. Statements only.
use Rattle.std.specs.Prelude.{◌≡◌, true, false, List, [], ◌∷◌, ◌++◌, map, ℕ, ◌*◌, ◌^◌, ℤ, pos, negsuc, length}
use Rattle.cgx_spec.specs.declared.Kind.TheVariants.{Text}
use Rattle.cgx_spec.specs.Verdicts.{Verdict}
use Rattle.cgx_spec.specs.Verdicts.{accepted, refused}
use Rattle.cgx_spec.specs.Numbers.{long_of}
use Rattle.cgx_spec.specs.Reals.{real_of, normal_real}
use Rattle.cgx_spec.specs.Dates.{good_date}
use Rattle.cgx_spec.specs.Strings.{text_of, good_string}
use Rattle.cgx_spec.specs.Kinds.{flags_of}
use Rattle.cgx_spec.specs.Files.{header, walk_of, verdict_of, normal_form}

pub data Specimen : Type 0 where
  -- a file and the verdict on it
  file : List ℕ → Verdict → Specimen
  -- an accepted file that is its own normal form
  normal_file : List ℕ → Specimen
  -- a field that is a string, and its text
  string : List ℕ → List ℕ → Specimen
  -- a field that is no string
  no_string : List ℕ → Specimen
  -- four bytes and their number
  long : List ℕ → ℤ → Specimen
  -- a real, its normal real and the value of both
  real : List ℕ → List ℕ → ℤ → Specimen

abbrev pub Holds : Specimen → Type 0
Holds (file f v) = verdict_of f ≡ v
Holds (normal_file f) = (verdict_of f ≡ accepted) × (normal_form f ≡ f)
Holds (string b t) = (good_string b ≡ true) × (text_of b ≡ t)
Holds (no_string b) = good_string b ≡ false
Holds (long b z) = long_of b ≡ z
Holds (real b n v) = (normal_real b ≡ n) × (real_of b ≡ v) × (real_of n ≡ v)

-- The value of the real 1: 2^312, as whole numbers.
abbrev pub one : ℤ
one = pos (16 ^ 64 * 2 ^ 56)

abbrev pub specimens : List Specimen
specimens =
    -- "empty file: 1 at 0. `cgx` with level 1: 2 at 0. `cgx` 0 alone: 3 at 4; followed by 00 05 00 00 instead: 5 at 4; by 00 04 0b 00: 6 at 4."
    file [] (refused 1 0)
    ∷ file (0x63 ∷ 0x67 ∷ 0x78 ∷ 1 ∷ []) (refused 2 0)
    ∷ file header (refused 3 4)
    ∷ file (header ++ 0 ∷ 5 ∷ 0 ∷ 0 ∷ []) (refused 5 4)
    ∷ file (header ++ 0 ∷ 4 ∷ 0x0b ∷ 0 ∷ []) (refused 6 4)
    -- "field 61 00 is "a"; 61 62 00 00 is "ab"; 00 00 is empty; 61 00 00 00 and 61 62 00 63 are refused."
    ∷ string (0x61 ∷ 0 ∷ []) (0x61 ∷ [])
    ∷ string (0x61 ∷ 0x62 ∷ 0 ∷ 0 ∷ []) (0x61 ∷ 0x62 ∷ [])
    ∷ string (0 ∷ 0 ∷ []) []
    ∷ no_string (0x61 ∷ 0 ∷ 0 ∷ 0 ∷ [])
    ∷ no_string (0x61 ∷ 0x62 ∷ 0 ∷ 0x63 ∷ [])
    -- "ff ff ff b0 is −80; 80 00 00 00 is −2147483648."
    ∷ long (0xff ∷ 0xff ∷ 0xff ∷ 0xb0 ∷ []) (negsuc 79)
    ∷ long (0x80 ∷ 0 ∷ 0 ∷ 0 ∷ []) (negsuc 2147483647)
    -- "42 01 and six zeros becomes 41 10 and six zeros, both 1. 80 and seven zeros becomes eight zeros."
    ∷ real (0x42 ∷ 0x01 ∷ 0 ∷ 0 ∷ 0 ∷ 0 ∷ 0 ∷ 0 ∷ []) (0x41 ∷ 0x10 ∷ 0 ∷ 0 ∷ 0 ∷ 0 ∷ 0 ∷ 0 ∷ []) one
    ∷ real (0x80 ∷ 0 ∷ 0 ∷ 0 ∷ 0 ∷ 0 ∷ 0 ∷ 0 ∷ []) (0 ∷ 0 ∷ 0 ∷ 0 ∷ 0 ∷ 0 ∷ 0 ∷ 0 ∷ []) (pos 0)
    ∷ []

-- ---- "LIBRARY named `m`, STRUCT `a`, unnamed LAYER, one box, ENDLIB (96 bytes, no other record)"

-- A real 1 that is not normal in uunit, and flags that mean nothing in STRUCT, LAYER, BOX and ENDLIB.
abbrev pub drawing : List ℕ
drawing =
    header
    ++ 0 ∷ 38 ∷ 0 ∷ 7 ∷ 0x41 ∷ 0x10 ∷ 0 ∷ 0 ∷ 0 ∷ 0 ∷ 0 ∷ 0 ∷ 0x42 ∷ 0x01 ∷ 0 ∷ 0 ∷ 0 ∷ 0 ∷ 0 ∷ 0 ∷ 7 ∷ 198 ∷ 1 ∷ 1 ∷ 0 ∷ 0 ∷ 0 ∷ 0 ∷ 7 ∷ 198 ∷ 1 ∷ 1 ∷ 0 ∷ 0 ∷ 0 ∷ 0 ∷ 0x6d ∷ 0
    ∷ 0 ∷ 22 ∷ 1 ∷ 9 ∷ 7 ∷ 208 ∷ 2 ∷ 28 ∷ 23 ∷ 59 ∷ 59 ∷ 0 ∷ 7 ∷ 208 ∷ 2 ∷ 28 ∷ 23 ∷ 59 ∷ 59 ∷ 0 ∷ 0x61 ∷ 0
    ∷ 0 ∷ 8 ∷ 4 ∷ 1 ∷ 0 ∷ 1 ∷ 0 ∷ 0
    ∷ 0 ∷ 20 ∷ 5 ∷ 3 ∷ 0xff ∷ 0xff ∷ 0xff ∷ 0xff ∷ 0 ∷ 0 ∷ 0 ∷ 0 ∷ 0 ∷ 0 ∷ 0 ∷ 10 ∷ 0 ∷ 0 ∷ 0 ∷ 20
    ∷ 0 ∷ 4 ∷ 10 ∷ 0xff
    ∷ []

-- In normal form, with these seconds: LIBRARY's two, then STRUCT's.
abbrev pub stamped : ℕ → ℕ → ℕ → ℕ → List ℕ
stamped a b c d =
    header
    ++ 0 ∷ 38 ∷ 0 ∷ 7 ∷ 0x41 ∷ 0x10 ∷ 0 ∷ 0 ∷ 0 ∷ 0 ∷ 0 ∷ 0 ∷ 0x41 ∷ 0x10 ∷ 0 ∷ 0 ∷ 0 ∷ 0 ∷ 0 ∷ 0 ∷ 7 ∷ 198 ∷ 1 ∷ 1 ∷ 0 ∷ 0 ∷ a ∷ 0 ∷ 7 ∷ 198 ∷ 1 ∷ 1 ∷ 0 ∷ 0 ∷ b ∷ 0 ∷ 0x6d ∷ 0
    ∷ 0 ∷ 22 ∷ 1 ∷ 0 ∷ 7 ∷ 208 ∷ 2 ∷ 28 ∷ 23 ∷ 59 ∷ c ∷ 0 ∷ 7 ∷ 208 ∷ 2 ∷ 28 ∷ 23 ∷ 59 ∷ d ∷ 0 ∷ 0x61 ∷ 0
    ∷ 0 ∷ 8 ∷ 4 ∷ 0 ∷ 0 ∷ 1 ∷ 0 ∷ 0
    ∷ 0 ∷ 20 ∷ 5 ∷ 0 ∷ 0xff ∷ 0xff ∷ 0xff ∷ 0xff ∷ 0 ∷ 0 ∷ 0 ∷ 0 ∷ 0 ∷ 0 ∷ 0 ∷ 10 ∷ 0 ∷ 0 ∷ 0 ∷ 20
    ∷ 0 ∷ 4 ∷ 10 ∷ 0
    ∷ []

abbrev pub drawing_normal : List ℕ
drawing_normal = stamped 0 0 59 59

pub record Drawing : Type 0 where
  pub long : length drawing ≡ 96
  pub taken : verdict_of drawing ≡ accepted
  -- its offsets, as the lister prints them
  pub offsets : map (λ p. p.at) (walk_of drawing).records ≡ 4 ∷ 42 ∷ 64 ∷ 72 ∷ 92 ∷ []
  pub form : normal_form drawing ≡ drawing_normal
  -- 01's "Second 59 taken, 60 refused", as Req 02 changes it: 60 taken, 61 refused.
  pub second-60 : good_date (7 ∷ 208 ∷ 2 ∷ 28 ∷ 23 ∷ 59 ∷ 60 ∷ 0 ∷ []) ≡ true
  pub second-61 : good_date (7 ∷ 208 ∷ 2 ∷ 28 ∷ 23 ∷ 59 ∷ 61 ∷ 0 ∷ []) ≡ false
  -- "TEXT flags f0 become 00."
  pub text-flags : flags_of Text 0xf0 ≡ 0

-- ---- Req 02: "Seconds 0 to 60 are accepted in all dates, by reader and writer; 61 is refused with 9."

-- The drawing, stamped on a leap second in each of its four dates; and on second 61.
abbrev pub leap_seconds : List Specimen
leap_seconds =
    normal_file (stamped 60 0 0 0) ∷ normal_file (stamped 0 60 0 0) ∷ normal_file (stamped 0 0 60 0) ∷ normal_file (stamped 0 0 0 60) ∷ normal_file (stamped 60 60 60 60)
    ∷ file (stamped 61 0 0 0) (refused 9 4)
    ∷ file (stamped 0 61 0 0) (refused 9 4)
    ∷ file (stamped 0 0 61 0) (refused 9 42)
    ∷ file (stamped 0 0 0 61) (refused 9 42)
    ∷ file (stamped 0 0 0 255) (refused 9 42)
    ∷ []
