-- When a real is read as the double with given bits: the real's whole number m * 16 ^ e (`whole`) against the double's significand and exponent bits. Assumes nothing.
use mathlib.Core.Path.{◌≡◌, sym, ap, ◌∙◌, subst}
use mathlib.Core.Bool.{Bool, true, false, cond}
use Prim.Native.Nat.{ℕ, suc, ◌+◌, ◌*◌, ◌/◌, ◌%◌, ◌^◌, ◌<◌, ◌≤◌}
use native.Mathlib.Nat.{mul-one, mul_assoc, mul_right_comm, mul-pos, eq_of_mul-eq-mul_right, lt_of_lt_of_le, lt_irrefl}
use native.Mathlib.Omega.{arith}
use borrow.Author.Tests.{ne_eqb}
use lib.Dec.{leb, eqb}
use lib.IntN.{ℤ}
use lib.Pow.{pow_pos, shl_lt, pow_mono}
use lib.Ieee.{Float, nan, inf, fin, binary64, up, down, odd, of_bits, of_fields}
use lib.Ieee.Bits.{of_bits-fits}
use lib.Ieee.Exact.{HasValue, odd_sign}
use lib.Ieee.Fits.{down_pos}
use Rattle.cgx_spec.specs.declared.Real.TheVariants.{Exact}
use Rattle.cgx_spec.specs.Reals.{negative, exponent, mantissa, pack, signed, value, answer, Means}
use Rattle.cgx_spec.proofs.RealLaws.{mantissa-lt, exponent_lt, negative-pack, exponent-pack, mantissa-pack}
use Rattle.cgx_spec.proofs.DoubleLaws.{exact-means, means-of, abs-signed, sixteens}
use Rattle.cgx_spec.proofs.OneDouble.{size_of, exact-only}
use Rattle.doubles.specs.Doubles.{field, significand}

-- ---- the double

-- its value, where the exponent bits are neither all zeros nor all ones
bits-odd : (b x : ℕ) → field b ≡ suc x → x < 2046 → of_bits binary64 b ≡ odd 53 (leb (2 ^ 63) b) (significand b) x 1074
unfolding of_bits of_fields
bits-odd b x e h =
    let f : b % 2 ^ 63 / 2 ^ 52 ≡ suc x = omega arith in
    let d : eqb (suc x) 2047 ≡ false = ne_eqb (suc x) 2047 (λ q. omega arith) in
    rw (f, d)

pub bits-value : (b x : ℕ) → field b ≡ suc x → x < 2046 → HasValue (of_bits binary64 b) (leb (2 ^ 63) b) (significand b * 2 ^ x) (2 ^ 1074)
bits-value b x e h = rw (bits-odd b x e h) (odd_sign 53 (leb (2 ^ 63) b) (significand b) x 1074)

-- and where they are all zeros
pub bits_small : (b : ℕ) → field b ≡ 0 → of_bits binary64 b ≡ odd 53 (leb (2 ^ 63) b) (b % 2 ^ 52) 0 1074
unfolding of_bits of_fields
bits_small b e = let f : b % 2 ^ 63 / 2 ^ 52 ≡ 0 = omega arith in rw f

-- or all ones
pub bits-ones : (b : ℕ) → field b ≡ 2047 → of_bits binary64 b ≡ cond (eqb (b % 2 ^ 52) 0) (inf (leb (2 ^ 63) b)) nan
unfolding of_bits of_fields
bits-ones b e = let f : b % 2 ^ 63 / 2 ^ 52 ≡ 2047 = omega arith in rw f

-- ---- the real

-- 2 ^ 312 times the size of what the real means
abbrev pub whole : ℕ → ℕ
whole w = mantissa w * 16 ^ exponent w

pub whole-lt : (w : ℕ) → whole w < 2 ^ 564
whole-lt w =
    let m : mantissa w < 2 ^ 56 = mantissa-lt w in
    let e : exponent w < 128 = exponent_lt w in
    let l : 56 + 4 * exponent w ≤ 564 = omega arith in
    rw (sixteens (exponent w)) (lt_of_lt_of_le (shl_lt 56 (4 * exponent w) m) (pow_mono l))

-- a real that is read as a double of the size a / 2 ^ 1074 has whole w * 2 ^ 762 = a
pub read-size : (w : ℕ) (x : Float) (s : Bool) (a : ℕ) → HasValue x s a (2 ^ 1074) → answer w ≡ Exact x → whole w * 2 ^ 762 ≡ a
unfolding value
read-size w x s a v q = go x v (exact-means w x q)
  where
    go : (x : Float) → HasValue x s a (2 ^ 1074) → Means x (value w) → whole w * 2 ^ 762 ≡ a
    go nan v m = absurd v
    go (inf t) v m = absurd v
    go (fin t n d) v m =
        let e : n * up d * 2 ^ 312 ≡ whole w * down d = size_of t n d (value w) m ∙ ap (λ (k : ℕ). k * down d) (abs-signed (negative w) (whole w)) in
        eq_of_mul-eq-mul_right (down d) (down_pos d) (whole w * 2 ^ 762) a
        (mul_right_comm (whole w) (2 ^ 762) (down d) ∙ ap (λ (k : ℕ). k * 2 ^ 762) (sym e) ∙ mul_assoc (n * up d) (2 ^ 312) (2 ^ 762) ∙ v.1)

-- and a real of that size and sign, above 0, is read as the double
shrink : (x : Float) (s : Bool) (n : ℕ) → HasValue x s (n * 2 ^ 762) (2 ^ 1074) → HasValue x s n (2 ^ 312)
shrink nan s n v = v
shrink (inf t) s n v = v
shrink (fin t m d) s n v = (
  v.0,
  eq_of_mul-eq-mul_right (2 ^ 762) (pow_pos 762) (m * up d * 2 ^ 312) (n * down d)
      (mul_assoc (m * up d) (2 ^ 312) (2 ^ 762) ∙ v.1 ∙ mul_right_comm n (2 ^ 762) (down d)),
)

pub read_as : (b e m : ℕ) (s : Bool) → e < 128 → m < 2 ^ 56 → 0 < m * 16 ^ e → HasValue (of_bits binary64 b) s (m * 16 ^ e * 2 ^ 762) (2 ^ 1074) → answer (pack s e m) ≡ Exact (of_bits binary64 b)
read_as b e m s h k p v =
    let n = m * 16 ^ e in
    let is : value (pack s e m) ≡ signed s n = unfold value in rw (negative-pack s e m h k, exponent-pack s e m h k, mantissa-pack s e m h k) in
    exact-only (pack s e m) (of_bits binary64 b) (of_bits-fits binary64 b) (subst (λ (z : ℤ). Means (of_bits binary64 b) z) (sym is) (means-of (of_bits binary64 b) s n (shrink (of_bits binary64 b) s n v)))
    (λ z. not-zero (subst (λ (x : Float). HasValue x s (n * 2 ^ 762) (2 ^ 1074)) z v))
  where
    not-zero : (true ≡ s) × (0 * 1 * 2 ^ 1074 ≡ m * 16 ^ e * 2 ^ 762 * 1) → ⊥
    not-zero q = lt_irrefl 0 (subst (λ (k : ℕ). 0 < k) (sym (mul-one (m * 16 ^ e * 2 ^ 762)) ∙ sym q.1) (mul-pos p (pow_pos 762)))
