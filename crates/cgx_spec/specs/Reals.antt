-- 01, "Bytes and numbers": reals. "A real is 8 bytes: one sign bit, seven exponent bits e, 56 bits of mantissa m."
-- Each definition takes the number w of the eight bytes; the last group takes the bytes themselves. Definitions only.
use Rattle.std.specs.Prelude.{Bool, true, false, not, ◌&&◌, cond, List, ◌⊎◌, ◌≡◌, ℕ, zero, suc, ◌+◌, ◌*◌, ◌/◌, ◌%◌, ◌^◌, ◌≤◌, ℤ, pos, neg_ℤ, ◌*ℤ◌, ltb, eqb, Float}
use Rattle.std.specs.Int.Signed.{lt_z}
use Rattle.std.specs.Int.Count.{count_trailing_zeros}
use Rattle.std.specs.Float.{nan, inf, fin, binary64}
use Rattle.std.specs.Float.Ieee.{up, down, round}
use Rattle.cgx_spec.specs.declared.Real.{Real}
use Rattle.cgx_spec.specs.declared.Real.TheVariants.{Exact, Inexact}
use Rattle.cgx_spec.specs.Numbers.{number, digits}

-- ---- the three parts

unfoldable pub negative : ℕ → Bool
negative w = eqb (w / 2 ^ 63 % 2) 1

unfoldable pub exponent : ℕ → ℕ
exponent w = w / 2 ^ 56 % 128

unfoldable pub mantissa : ℕ → ℕ
mantissa w = w % 2 ^ 56

-- The number with this sign, exponent and mantissa.
unfoldable pub pack : Bool → ℕ → ℕ → ℕ
pack s e m = cond s (2 ^ 63) 0 + e * 2 ^ 56 + m

-- ---- "It means m × 16^(e−64) / 2^56, negated if the sign bit is set."

abbrev pub signed : Bool → ℕ → ℤ
signed false n = pos n
signed true n = neg_ℤ (pos n)

-- "Equal when these exact values are equal, which is to be said with whole numbers (m × 16^e, with sign)": 2^312 times what the real means.
unfoldable pub value : ℕ → ℤ
value w = signed (negative w) (mantissa w * 16 ^ exponent w)

-- A real above 0.
unfoldable pub positive : ℕ → Bool
positive w = lt_z (pos 0) (value w)

-- ---- "The normal real has either m ≥ 2^52 or e = 0; zero is eight zero bytes."

-- While e is above 0 and m below 2^52: e less one, m sixteen times as much. The exponent, then the mantissa.
unfoldable pub lower : ℕ → ℕ → ℕ × ℕ
lower zero m = (zero, m)
lower (suc e) m = cond (ltb m (2 ^ 52)) (lower e (m * 16)) (suc e, m)

-- "With m = 0 it means zero whatever sign and exponent say": the sign that counts.
unfoldable pub minus : ℕ → Bool
minus w = negative w && not (eqb (mantissa w) 0)

unfoldable pub normal : ℕ → ℕ
normal w = pack (minus w) (lower (exponent w) (mantissa w)).0 (lower (exponent w) (mantissa w)).1

-- The sentence above, word by word; `Demands` says that `normal w` is the one number of 64 bits that meets it and has the value of w.
pub record IsNormal (w : ℕ) : Type 0 where
  pub full : (exponent w ≡ 0) ⊎ (2 ^ 52 ≤ mantissa w)
  pub bare : mantissa w ≡ 0 → w ≡ 0

-- ---- "A real is answered either as a double equal to its exact value (zero as +0) or as inexact with its sign, e and m."

-- "It is exact precisely when m, with its trailing zero bits removed, is below 2^53."
unfoldable pub exact : ℕ → Bool
exact w = ltb (mantissa w / 2 ^ count_trailing_zeros 64 (mantissa w)) (2 ^ 53)

-- The double nearest to what the real means, zero as +0.
unfoldable pub double : ℕ → Float
double w = round binary64 (minus w) (mantissa w * 16 ^ exponent w) (2 ^ 312)

unfoldable pub answer : ℕ → Real
answer w = cond (exact w) (Exact (double w)) (Inexact (negative w) (exponent w) (mantissa w))

-- A float means v / 2^312, where v is the value of a real. (A finite float is its sign, a whole number n and a power of two d: ± n · up d / down d.)
abbrev pub Means : Float → ℤ → Type 0
Means nan v = ⊥
Means (inf s) v = ⊥
Means (fin s n d) v = signed s (n * up d * 2 ^ 312) ≡ v *ℤ pos (down d)

-- The value that an answer means.
unfoldable pub float_value : Float → ℤ
float_value nan = pos 0
float_value (inf s) = pos 0
float_value (fin s n d) = signed s (n * up d * 2 ^ 312 / down d)

unfoldable pub answer_value : Real → ℤ
answer_value (Exact x) = float_value x
answer_value (Inexact s e m) = signed s (m * 16 ^ e)

-- ---- of eight bytes

unfoldable pub real_of : List ℕ → ℤ
real_of b = value (number b)

unfoldable pub positive_real : List ℕ → Bool
positive_real b = positive (number b)

unfoldable pub normal_real : List ℕ → List ℕ
normal_real b = digits 8 (normal (number b))
