-- Laws of the double that a real is answered with: an exact answer is the real's own value, and a real whose value some double has is answered exactly. Assumes nothing.
use mathlib.Core.Path.{◌≡◌, refl, sym, ap, ◌∙◌, subst}
use mathlib.Core.Logic.{◌⊎◌, inl, inr}
use mathlib.Core.Bool.{Bool, true, false, not, ◌&&◌, cond}
use Prim.Native.Nat.{ℕ, zero, suc, ◌+◌, ◌*◌, ◌/◌, ◌%◌, ◌^◌, ◌<◌, ◌≤◌}
use native.Mathlib.Nat.{zero-mul, zero-lt-suc, mul-one, one-mul, mul-pos, mul_assoc, mul_comm, mul_left_comm, pow-suc, pow-succ', le_of_lt, le_trans, lt_irrefl, lt_of_lt_of_le, div-one, div-div-eq-div-mul, le_of_eq, le-mul_of_pos_right, eq_of_mul-eq-mul_right, eq-zero-or-pos}
use native.Mathlib.Omega.{arith}
use borrow.Author.Tests.{lt-ltb, le-ltb, lt-leb, ne_eqb}
use lib.IntN.{ℤ, pos, negsuc, neg_ℤ, nat_abs, ◌*ℤ◌}
use lib.Dec.{T, ltb, eqb, leb, lit<, lit≤, ltb→lt, le→leb}
use lib.Pow.{pow-add, pow_pos, shl_lt, pow_mono}
use lib.Count.{count_trailing_zeros, under, trailing_le}
use lib.Ieee.{Float, nan, inf, fin, Format, binary64, prec, low, emax, up, down, span, climb, size, odd, units, round, neg, mul, of_int, of_bits, of_fields, is_nan, nan_bits, in_float, fits}
use lib.Ieee.Bits.{nan_bits_is, is_true}
use lib.Ieee.Exact.{HasValue, odd_sign, round_exact}
use lib.Ieee.Back.{round_whole}
use lib.Ieee.Fits.{and_l, and_r, round-fits}
use lib.Ieee.Positive.{mul_at, positive_of_value}
use lib.Ieee.Scale.{round_same}
use Rattle.cgx_spec.specs.declared.Real.TheVariants.{Exact, Inexact}
use Rattle.cgx_spec.specs.Reals.{negative, exponent, mantissa, signed, value, minus, exact, double, answer, Means}
use Rattle.cgx_spec.proofs.RealLaws.{value-minus, minus-above, mantissa-lt, exponent_lt}

-- ---- trailing zero bits

twice_half : (n : ℕ) → n % 2 ≡ 0 → n / 2 * 2 ≡ n
twice_half n e = omega arith

pub tz_div : (d n : ℕ) → n / 2 ^ count_trailing_zeros d n * 2 ^ count_trailing_zeros d n ≡ n
unfolding count_trailing_zeros
tz_div zero n = mul-one (n / 1) ∙ div-one n
tz_div (suc d) n = go (n % 2) refl (tz_div d (n / 2))
  where
    go : (r : ℕ) → n % 2 ≡ r → n / 2 / 2 ^ count_trailing_zeros d (n / 2) * 2 ^ count_trailing_zeros d (n / 2) ≡ n / 2
        → n / 2 ^ under r (count_trailing_zeros d (n / 2)) * 2 ^ under r (count_trailing_zeros d (n / 2)) ≡ n
    go zero e ih =
        let t = count_trailing_zeros d (n / 2) in
        ap (λ (x : ℕ). n / x * 2 ^ suc t) (pow-succ' 2 t)
        ∙ ap (λ (x : ℕ). x * 2 ^ suc t) (sym (div-div-eq-div-mul n 2 (2 ^ t)))
        ∙ ap (λ (x : ℕ). n / 2 / 2 ^ t * x) (pow-suc 2 t)
        ∙ sym (mul_assoc (n / 2 / 2 ^ t) (2 ^ t) 2)
        ∙ ap (λ (x : ℕ). x * 2) ih
        ∙ twice_half n e
    go (suc r) e ih = mul-one (n / 1) ∙ div-one n

-- not all digits of a number above 0 are zeros
pub tz-lt : (d n : ℕ) → 0 < n → n < 2 ^ d → count_trailing_zeros d n < d
unfolding count_trailing_zeros
tz-lt zero n h k = let q : n < 1 = k in absurd (none n h q)
  where
    none : (n : ℕ) → 0 < n → n < 1 → ⊥
    none n h k = omega arith
tz-lt (suc d) n h k = go (n % 2) refl (λ a b. tz-lt d (n / 2) a b)
  where
    go : (r : ℕ) → n % 2 ≡ r → (0 < n / 2 → n / 2 < 2 ^ d → count_trailing_zeros d (n / 2) < d) → under r (count_trailing_zeros d (n / 2)) < suc d
    go zero e ih =
        let k' : n < 2 ^ d * 2 = subst (λ (x : ℕ). n < x) (pow-suc 2 d) k in
        let i : count_trailing_zeros d (n / 2) < d = ih (omega arith) (omega arith) in omega arith
    go (suc r) e ih = zero-lt-suc d

-- ---- the sign goes through `round`

neg-odd : (d q k l : ℕ) → neg (odd d false q k l) ≡ odd d true q k l
unfolding odd neg
neg-odd d zero k l = refl
neg-odd d (suc q) k l = refl

neg-units : (f : Format) (q k : ℕ) → neg (units f false q k) ≡ units f true q k
unfolding units
neg-units f q k = go (ltb (q * 2 ^ k) (2 ^ (low f + suc (emax f))))
  where
    go : (b : Bool) → neg (cond b (odd (suc (prec f)) false q k (low f)) (inf false)) ≡ cond b (odd (suc (prec f)) true q k (low f)) (inf true)
    go true = neg-odd (suc (prec f)) q k (low f)
    go false = unfold neg in refl

pub neg-round : (f : Format) (a b : ℕ) → neg (round f false a b) ≡ round f true a b
unfolding round
neg-round f a b = neg-units f _ _

-- ---- a power of two by its bit pattern

-- 2 ^ 52 * 2 ^ x / 2 ^ 1074, which is 2 ^ (x + 1 - 1023): the exponent's field is x + 1
power-bits : (x : ℕ) → x < 2046 → of_bits binary64 ((x + 1) * 2 ^ 52) ≡ odd 53 false (2 ^ 52 + 0) x 1074
unfolding of_bits of_fields
power-bits x h =
    let a : leb (2 ^ 63) ((x + 1) * 2 ^ 52) ≡ false = lt-leb (2 ^ 63) ((x + 1) * 2 ^ 52) (omega arith) in
    let b : (x + 1) * 2 ^ 52 % 2 ^ 63 / 2 ^ 52 ≡ suc x = omega arith in
    let c : (x + 1) * 2 ^ 52 % 2 ^ 52 ≡ 0 = omega arith in
    let d : eqb (suc x) 2047 ≡ false = ne_eqb (suc x) 2047 (λ e. omega arith) in
    rw (a, b, c, d)

power : (a : ℕ) → a < 1300 → HasValue (of_bits binary64 ((a + 711) * 2 ^ 52)) false ((2 ^ 52 + 0) * 2 ^ (a + 710)) (2 ^ 1074)
power a h =
    let q : a + 711 ≡ a + 710 + 1 = omega arith in
    let k : a + 710 < 2046 = omega arith in
    rw (q, power-bits (a + 710)) (odd_sign 53 false (2 ^ 52 + 0) (a + 710) 1074)

finite-is : (x : Float) (s : Bool) (a c : ℕ) → HasValue x s a c → T (not (is_nan x))
unfolding is_nan
finite-is nan s a c v = absurd v
finite-is (inf t) s a c v = absurd v
finite-is (fin t m e) s a c v = tt

pub power-not-nan : (a : ℕ) → a < 1300 → T (not (nan_bits binary64 ((a + 711) * 2 ^ 52)))
power-not-nan a h = rw nan_bits_is (finite-is (of_bits binary64 ((a + 711) * 2 ^ 52)) false ((2 ^ 52 + 0) * 2 ^ (a + 710)) (2 ^ 1074) (power a h))

-- ---- a number of at most 53 digits, times a power of two

cast-value : (q : ℕ) → q < 2 ^ 53 → HasValue (of_int binary64 (pos q)) false q 1
unfolding of_int
cast-value q h = round_whole binary64 false q (le_of_lt h)

pub cast-exact : (q : ℕ) → q < 2 ^ 53 → T (in_float binary64 (pos q))
unfolding in_float
cast-exact q h = le→leb q (2 ^ 53) (le_of_lt h)

shuffle : (q c p n r : ℕ) → q * (c * (p * n)) * r ≡ q * p * (1 * (c * n * r))
shuffle q c p n r = simp (mul_assoc, mul_left_comm, one-mul)

pub scaled-is : (q a : ℕ) → 0 < q → q < 2 ^ 53 → a < 1300
    → mul binary64 (of_int binary64 (pos q)) (of_bits binary64 ((a + 711) * 2 ^ 52)) ≡ round binary64 false (q * 2 ^ a) (2 ^ 312)
scaled-is q a z h k =
    let x = of_int binary64 (pos q) in
    let y = of_bits binary64 ((a + 711) * 2 ^ 52) in
    let b = (2 ^ 52 + 0) * 2 ^ (a + 710) in
    let e : q * b * 2 ^ 312 ≡ q * 2 ^ a * (1 * 2 ^ 1074) = ap (λ (n : ℕ). q * ((2 ^ 52 + 0) * n) * 2 ^ 312) (pow-add 2 a 710) ∙ shuffle q (2 ^ 52 + 0) (2 ^ a) (2 ^ 710) (2 ^ 312) in
    mul_at binary64 x y q 1 b (2 ^ 1074) (positive_of_value x q 1 (cast-value q h) z)
    (positive_of_value y b (2 ^ 1074) (power a k) (mul-pos (lit< tt) (pow_pos (a + 710)))) (zero-lt-suc 0) (pow_pos 1074) (cast-value q h) (power a k)
    ∙ round_same binary64 false (q * b) (1 * 2 ^ 1074) (q * 2 ^ a) (2 ^ 312) (lit< tt) (pow_pos 312) e

-- ---- the product m * 16 ^ e as an odd number times a power of two

pub sixteens : (e : ℕ) → 16 ^ e ≡ 2 ^ (4 * e)
sixteens zero = refl
sixteens (suc e) =
    let q : 4 * suc e ≡ 4 * e + 4 = omega arith in
    pow-suc 16 e ∙ ap (λ (n : ℕ). n * 16) (sixteens e) ∙ sym (pow-add 2 (4 * e) 4) ∙ ap (λ (n : ℕ). 2 ^ n) (sym q)

pub product : (m e : ℕ) → m * 16 ^ e ≡ m / 2 ^ count_trailing_zeros 64 m * 2 ^ (4 * e + count_trailing_zeros 64 m)
product m e =
    let t = count_trailing_zeros 64 m in
    ap (λ (n : ℕ). n * 16 ^ e) (sym (tz_div 64 m))
    ∙ ap (λ (n : ℕ). m / 2 ^ t * 2 ^ t * n) (sixteens e)
    ∙ mul_assoc (m / 2 ^ t) (2 ^ t) (2 ^ (4 * e))
    ∙ ap (λ (n : ℕ). m / 2 ^ t * n) (mul_comm (2 ^ t) (2 ^ (4 * e)) ∙ sym (pow-add 2 (4 * e) t))

-- ---- an exact answer is the real's own value

exact-lt : (w : ℕ) → T (exact w) → mantissa w / 2 ^ count_trailing_zeros 64 (mantissa w) < 2 ^ 53
unfolding exact
exact-lt w t = ltb→lt (mantissa w / 2 ^ count_trailing_zeros 64 (mantissa w)) (2 ^ 53) t

turn : (q p n d : ℕ) → q * p * (n * d) ≡ q * (p * n) * d
turn q p n d = simp mul_assoc

exact-fraction : (w : ℕ) → T (exact w) → HasValue (double w) (minus w) (mantissa w * 16 ^ exponent w) (2 ^ 312)
unfolding double
exact-fraction w t =
    let m = mantissa w in
    let e = exponent w in
    let z = count_trailing_zeros 64 m in
    let q = m / 2 ^ z in
    let a = 4 * e + z in
    let z-le : z ≤ 64 = trailing_le 64 m in
    let e-lt : e < 128 = exponent_lt w in
    let j-le : 53 + (a + 762) ≤ 2098 = omega arith in
    let num : m * 16 ^ e * 2 ^ 1074 ≡ q * 2 ^ (a + 762) * 2 ^ 312 =
    ap (λ (n : ℕ). n * 2 ^ 1074) (product m e) ∙ turn q (2 ^ a) (2 ^ 762) (2 ^ 312) ∙ ap (λ (n : ℕ). q * n * 2 ^ 312) (sym (pow-add 2 a 762)) in
    round_exact binary64 (minus w) (m * 16 ^ e) (2 ^ 312) q (a + 762) (pow_pos 312) (exact-lt w t)
    (lt_of_lt_of_le (shl_lt 53 (a + 762) (exact-lt w t)) (pow_mono j-le)) num

signed_mul : (s : Bool) (n k : ℕ) → signed s (n * k) ≡ signed s n *ℤ pos k
signed_mul false n k = refl
signed_mul true zero k = ap (λ (x : ℕ). neg_ℤ (pos x)) (zero-mul k) ∙ sym (ap pos (zero-mul k))
signed_mul true (suc n) k = refl

pub means-of : (x : Float) (s : Bool) (n : ℕ) → HasValue x s n (2 ^ 312) → Means x (signed s n)
means-of nan s n v = v
means-of (inf t) s n v = v
means-of (fin t m d) s n v = ap (λ (b : Bool). signed b (m * up d * 2 ^ 312)) v.0 ∙ ap (signed s) v.1 ∙ signed_mul s n (down d)

-- where the real is exact, the double is its value
pub double-means : (w : ℕ) → T (exact w) → Means (double w) (value w)
double-means w t = subst (λ (v : ℤ). Means (double w) v) (sym (value-minus w)) (means-of (double w) (minus w) (mantissa w * 16 ^ exponent w) (exact-fraction w t))

-- ---- a real whose value some double has is exact

tz_odd : (d q : ℕ) → 0 < q → q < 2 ^ d → q / 2 ^ count_trailing_zeros d q % 2 ≡ 1
unfolding count_trailing_zeros
tz_odd zero q h k = let k' : q < 1 = k in absurd (none q h k')
  where
    none : (n : ℕ) → 0 < n → n < 1 → ⊥
    none n h k = omega arith
tz_odd (suc d) q h k = go (q % 2) refl (λ a b. tz_odd d (q / 2) a b)
  where
    go : (r : ℕ) → q % 2 ≡ r → (0 < q / 2 → q / 2 < 2 ^ d → q / 2 / 2 ^ count_trailing_zeros d (q / 2) % 2 ≡ 1) → q / 2 ^ under r (count_trailing_zeros d (q / 2)) % 2 ≡ 1
    go zero e ih =
        let t = count_trailing_zeros d (q / 2) in
        let k' : q < 2 ^ d * 2 = subst (λ (x : ℕ). q < x) (pow-suc 2 d) k in
        ap (λ (x : ℕ). x % 2) (ap (λ (x : ℕ). q / x) (pow-succ' 2 t) ∙ sym (div-div-eq-div-mul q 2 (2 ^ t))) ∙ ih (omega arith) (omega arith)
    go (suc r) e ih = ap (λ (x : ℕ). x % 2) (div-one q) ∙ one q r e
      where
        one : (q r : ℕ) → q % 2 ≡ suc r → q % 2 ≡ 1
        one q r e = omega arith

-- an odd number times a power of two is the least with that product
even : (q k : ℕ) → q % 2 ≡ 1 → q ≡ k * 2 → ⊥
even q k o e = omega arith

pow-out : (n b : ℕ) → n * 2 ^ suc b ≡ n * 2 ^ b * 2
pow-out n b = ap (λ (x : ℕ). n * x) (pow-suc 2 b) ∙ sym (mul_assoc n (2 ^ b) 2)

odd-le : (a b q n : ℕ) → q % 2 ≡ 1 → q * 2 ^ a ≡ n * 2 ^ b → q ≤ n
odd-le zero zero q n o e = le_of_eq (sym (mul-one q) ∙ e ∙ mul-one n)
odd-le zero (suc b) q n o e = absurd (even q (n * 2 ^ b) o (sym (mul-one q) ∙ e ∙ pow-out n b))
odd-le (suc a) zero q n o e = le_trans (le-mul_of_pos_right q (pow_pos (suc a))) (le_of_eq (e ∙ mul-one n))
odd-le (suc a) (suc b) q n o e = odd-le a b q n o (eq_of_mul-eq-mul_right 2 (zero-lt-suc 1) (q * 2 ^ a) (n * 2 ^ b) (sym (pow-out q a) ∙ e ∙ pow-out n b))

pub odd_pow : (m n a b : ℕ) → m % 2 ≡ 1 → n % 2 ≡ 1 → m * 2 ^ a ≡ n * 2 ^ b → (m ≡ n) × (a ≡ b)
odd_pow m n zero zero o p h = (sym (mul-one m) ∙ h ∙ mul-one n, refl)
odd_pow m n zero (suc b) o p h = absurd (even m (n * 2 ^ b) o (sym (mul-one m) ∙ h ∙ pow-out n b))
odd_pow m n (suc a) zero o p h = absurd (even n (m * 2 ^ a) p (sym (mul-one n) ∙ sym h ∙ pow-out m a))
odd_pow m n (suc a) (suc b) o p h =
    let r = odd_pow m n a b o p (eq_of_mul-eq-mul_right 2 (zero-lt-suc 1) (m * 2 ^ a) (n * 2 ^ b) (sym (pow-out m a) ∙ h ∙ pow-out n b)) in
    (r.0, ap suc r.1)

pub abs-signed : (s : Bool) (n : ℕ) → nat_abs (signed s n) ≡ n
abs-signed false n = refl
abs-signed true zero = refl
abs-signed true (suc n) = refl

-- the size of what a float means
size_of : (s : Bool) (n : ℕ) (d : ℤ) (w : ℕ) → Means (fin s n d) (value w) → n * up d * 2 ^ 312 ≡ mantissa w * 16 ^ exponent w * down d
size_of s n d w v =
    sym (abs-signed s (n * up d * 2 ^ 312))
    ∙ ap nat_abs (v ∙ ap (λ (z : ℤ). z *ℤ pos (down d)) (value-minus w) ∙ sym (signed_mul (minus w) (mantissa w * 16 ^ exponent w) (down d)))
    ∙ abs-signed (minus w) (mantissa w * 16 ^ exponent w * down d)

shift_le : (n : ℕ) (d : ℤ) (q a : ℕ) → q % 2 ≡ 1 → n * up d * 2 ^ 312 ≡ q * 2 ^ a * down d → q ≤ n
shift_le n (pos k) q a o e = odd-le a (k + 312) q n o (sym (mul-one (q * 2 ^ a)) ∙ sym e ∙ mul_assoc n (2 ^ k) (2 ^ 312) ∙ ap (λ (x : ℕ). n * x) (sym (pow-add 2 k 312)))
shift_le n (negsuc k) q a o e =
    odd-le (a + suc k) 312 q n o
    (ap (λ (x : ℕ). q * x) (pow-add 2 a (suc k)) ∙ sym (mul_assoc q (2 ^ a) (2 ^ suc k)) ∙ sym e ∙ ap (λ (x : ℕ). x * 2 ^ 312) (mul-one n))

fits_lt : (s : Bool) (n : ℕ) (d : ℤ) → T (fits binary64 (fin s n d)) → n < 2 ^ 53
unfolding fits
fits_lt s zero d t = lit< tt
fits_lt s (suc n) d t =
    ltb→lt (suc n) (2 ^ 53) (and_r (eqb (suc n % 2) 1) (ltb (suc n) (2 ^ 53))
    (and_l (eqb (suc n % 2) 1 && ltb (suc n) (2 ^ 53)) (leb (down d) (2 ^ 1074))
    (and_l (eqb (suc n % 2) 1 && ltb (suc n) (2 ^ 53) && leb (down d) (2 ^ 1074)) (ltb (suc n * up d) (2 ^ 1024 * down d)) t)))

pub exact-made : (w : ℕ) → mantissa w / 2 ^ count_trailing_zeros 64 (mantissa w) < 2 ^ 53 → exact w ≡ true
unfolding exact
exact-made w h = lt-ltb (mantissa w / 2 ^ count_trailing_zeros 64 (mantissa w)) (2 ^ 53) h

pub exact-not : (w : ℕ) → 2 ^ 53 ≤ mantissa w / 2 ^ count_trailing_zeros 64 (mantissa w) → exact w ≡ false
unfolding exact
exact-not w h = le-ltb (mantissa w / 2 ^ count_trailing_zeros 64 (mantissa w)) (2 ^ 53) h

pub exact-zero : (w : ℕ) → mantissa w ≡ 0 → exact w ≡ true
unfolding exact count_trailing_zeros
exact-zero w z = ap (λ (m : ℕ). ltb (m / 2 ^ count_trailing_zeros 64 m) (2 ^ 53)) z

le-lt : {a b c : ℕ} → a ≤ b → b < c → a < c
le-lt {a} {b} {c} h k = omega arith

yes : {b : Bool} → b ≡ true → T b
yes {b} e = subst T (sym e) tt

-- Where a double x means the real's value, the real is exact.
pub exact-of : (w : ℕ) (x : Float) → T (fits binary64 x) → Means x (value w) → T (exact w)
exact-of w nan f v = absurd v
exact-of w (inf s) f v = absurd v
exact-of w (fin s n d) f v = go (eq-zero-or-pos (mantissa w))
  where
    go : (mantissa w ≡ 0) ⊎ (0 < mantissa w) → T (exact w)
    go (inl z) = yes (exact-zero w z)
    go (inr z) =
        let m = mantissa w in
        let t = count_trailing_zeros 64 m in
        let q = m / 2 ^ t in
        let o : q % 2 ≡ 1 = tz_odd 64 m z (lt_of_lt_of_le (mantissa-lt w) (lit≤ tt)) in
        let e : n * up d * 2 ^ 312 ≡ q * 2 ^ (4 * exponent w + t) * down d = size_of s n d w v ∙ ap (λ (x : ℕ). x * down d) (product m (exponent w)) in
        yes (exact-made w (le-lt (shift_le n d q (4 * exponent w + t) o e) (fits_lt s n d f)))

-- ---- for the code that makes the answer

round-zero : round binary64 false 0 (2 ^ 312) ≡ fin false 0 (pos 0)
unfolding round size span climb units odd
round-zero = refl

pub double-zero : (w : ℕ) → mantissa w ≡ 0 → double w ≡ fin false 0 (pos 0)
unfolding double minus
double-zero w z = rw z (go (negative w) ∙ round-zero)
  where
    go : (s : Bool) → round binary64 (s && not (eqb 0 0)) (0 * 16 ^ exponent w) (2 ^ 312) ≡ round binary64 false 0 (2 ^ 312)
    go true = ap (λ (n : ℕ). round binary64 false n (2 ^ 312)) (zero-mul (16 ^ exponent w))
    go false = ap (λ (n : ℕ). round binary64 false n (2 ^ 312)) (zero-mul (16 ^ exponent w))

-- a number above 0 keeps something without its trailing zero bits
pub tz-pos : (d n : ℕ) → 0 < n → 0 < n / 2 ^ count_trailing_zeros d n
tz-pos d n h = go (eq-zero-or-pos (n / 2 ^ count_trailing_zeros d n))
  where
    go : (n / 2 ^ count_trailing_zeros d n ≡ 0) ⊎ (0 < n / 2 ^ count_trailing_zeros d n) → 0 < n / 2 ^ count_trailing_zeros d n
    go (inl z) = absurd (lt_irrefl 0 (subst (λ (k : ℕ). 0 < k) (sym (tz_div d n) ∙ ap (λ (k : ℕ). k * 2 ^ count_trailing_zeros d n) z ∙ zero-mul (2 ^ count_trailing_zeros d n)) h))
    go (inr z) = z

pub answer-exact : (w : ℕ) (x : Float) → exact w ≡ true → double w ≡ x → answer w ≡ Exact x
unfolding answer
answer-exact w x e d = rw (e, d)

pub answer-inexact : (w : ℕ) → exact w ≡ false → answer w ≡ Inexact (negative w) (exponent w) (mantissa w)
unfolding answer
answer-inexact w e = rw e

-- Where the mantissa m is not 0, q is m without its trailing zero bits, t of them, and y is q * 2 ^ (4 e + t) / 2 ^ 312, the double is y or -y.
module _ (w : ℕ) (z : mantissa w ≡ 0 → ⊥) where
  abbrev part-q : ℕ
  part-q = mantissa w / 2 ^ count_trailing_zeros 64 (mantissa w)

  abbrev part-a : ℕ
  part-a = 4 * exponent w + count_trailing_zeros 64 (mantissa w)

  double-parts : (s : Bool) → negative w ≡ s → double w ≡ round binary64 s (part-q * 2 ^ part-a) (2 ^ 312)
  unfolding double minus
  double-parts s n = rw (ne_eqb (mantissa w) 0 z, product (mantissa w) (exponent w), n) (go s)
    where
      go : (s : Bool) → round binary64 (s && not false) (part-q * 2 ^ part-a) (2 ^ 312) ≡ round binary64 s (part-q * 2 ^ part-a) (2 ^ 312)
      go true = refl
      go false = refl

  pub answer-plus : part-q < 2 ^ 53 → negative w ≡ false → (y : Float) → y ≡ round binary64 false (part-q * 2 ^ part-a) (2 ^ 312) → Exact y ≡ answer w
  answer-plus h n y e = sym (answer-exact w y (exact-made w h) (double-parts false n ∙ sym e))

  pub answer-minus : part-q < 2 ^ 53 → negative w ≡ true → (y : Float) → y ≡ round binary64 false (part-q * 2 ^ part-a) (2 ^ 312) → Exact (neg y) ≡ answer w
  answer-minus h n y e = sym (answer-exact w (neg y) (exact-made w h) (double-parts true n ∙ sym (neg-round binary64 (part-q * 2 ^ part-a) (2 ^ 312)) ∙ sym (ap neg e)))

-- ---- what the two answers say of the real's value

-- an exact answer has the real's value
pub exact-means : (w : ℕ) (x : Float) → answer w ≡ Exact x → Means x (value w)
exact-means w x q = go (exact w) refl
  where
    go : (b : Bool) → exact w ≡ b → Means x (value w)
    go true e =
        let r : Exact (double w) ≡ Exact x = sym (answer-exact w (double w) e refl) ∙ q in
        let d : double w ≡ x = cc in
        subst (λ (y : Float). Means y (value w)) d (double-means w (yes e))
    go false e =
        let r : Inexact (negative w) (exponent w) (mantissa w) ≡ Exact x = sym (answer-inexact w e) ∙ q in
        let z : ◌≡◌ {A = ℕ} 0 1 = cc in absurd (differ z)
      where
        differ : ◌≡◌ {A = ℕ} 0 1 → ⊥
        differ z = omega arith

-- a real whose value a double has is answered exactly
pub means-exact : (w : ℕ) (x : Float) → T (fits binary64 x) → Means x (value w) → answer w ≡ Exact (double w)
means-exact w x f v = answer-exact w (double w) (is_true (exact w) (exact-of w x f v)) refl

-- and no double has the value of a real that is answered inexactly, which is answered with its own parts
pub inexact-none : (w : ℕ) (s : Bool) (e m : ℕ) → answer w ≡ Inexact s e m → (x : Float) → T (fits binary64 x) → Means x (value w) → ⊥
inexact-none w s e m q x f v =
    let r : Inexact s e m ≡ Exact (double w) = sym q ∙ means-exact w x f v in
    let z : ◌≡◌ {A = ℕ} 0 1 = cc in omega arith

-- the double of an exact real is a double, and not -0
pub double-fits : (w : ℕ) → T (fits binary64 (double w))
unfolding double
double-fits w = round-fits binary64 (minus w) (mantissa w * 16 ^ exponent w) (2 ^ 312)

pub double-plus : (w : ℕ) → T (exact w) → double w ≡ fin true 0 (pos 0) → ⊥
double-plus w t q = go (subst (λ (x : Float). HasValue x (minus w) (mantissa w * 16 ^ exponent w) (2 ^ 312)) q (exact-fraction w t))
  where
    go : (true ≡ minus w) × (0 * 1 * 2 ^ 312 ≡ mantissa w * 16 ^ exponent w * 1) → ⊥
    go v = lt_irrefl 0 (subst (λ (x : ℕ). 0 < x) (sym (mul-one (mantissa w * 16 ^ exponent w)) ∙ sym v.1) (minus-above w (yes (sym v.0))))
