-- A real's value is that of at most one double, -0 left out: so the exact answer is the double of that value. Assumes nothing.
use mathlib.Core.Path.{◌≡◌, refl, sym, ap, ◌∙◌, subst}
use mathlib.Core.Bool.{Bool, true, false, ◌&&◌}
use Prim.Native.Nat.{ℕ, zero, suc, ◌+◌, ◌*◌, ◌%◌, ◌^◌, ◌<◌}
use native.Mathlib.Nat.{zero-mul, zero-lt-suc, mul-one, one-mul, mul-pos, mul_assoc, mul_right_comm, pow-suc, lt_irrefl, eq_of_mul-eq-mul_right, suc-ne-zero}
use native.Mathlib.Omega.{arith}
use lib.IntN.{ℤ, pos, negsuc, neg_ℤ, nat_abs, ◌*ℤ◌, pos-ne-negsuc}
use lib.Dec.{T, ltb, eqb, leb, eqb→eq}
use lib.Pow.{pow-add, pow_pos}
use lib.Ieee.{Float, nan, inf, fin, binary64, up, down, fits}
use lib.Ieee.Fits.{and_l, up_pos, down_pos}
use Rattle.cgx_spec.specs.declared.Real.TheVariants.{Exact}
use Rattle.cgx_spec.specs.Reals.{signed, value, double, answer, Means}
use Rattle.cgx_spec.proofs.DoubleLaws.{double-means, double-fits, double-plus, means-exact, exact-of, odd_pow, abs-signed}

-- ---- the two ways to write a number with an odd m, or 0

is_odd : (s : Bool) (m : ℕ) (e : ℤ) → T (fits binary64 (fin s (suc m) e)) → suc m % 2 ≡ 1
unfolding fits
is_odd s m e t =
    eqb→eq (suc m % 2) 1 (and_l (eqb (suc m % 2) 1) (ltb (suc m) (2 ^ 53)) (and_l (eqb (suc m % 2) 1 && ltb (suc m) (2 ^ 53)) (leb (down e) (2 ^ 1074))
    (and_l (eqb (suc m % 2) 1 && ltb (suc m) (2 ^ 53) && leb (down e) (2 ^ 1074)) (ltb (suc m * up e) (2 ^ 1024 * down e)) t)))

flat : (e : ℤ) → up e * down e ≡ 1 → e ≡ pos 0
flat (pos zero) h = refl
flat (pos (suc k)) h = absurd (two_up (2 ^ k) (pow_pos k) (sym (pow-suc 2 k) ∙ sym (mul-one (2 ^ suc k)) ∙ h))
  where
    two_up : (p : ℕ) → 0 < p → p * 2 ≡ 1 → ⊥
    two_up p h e = omega arith
flat (negsuc k) h = absurd (two_up (2 ^ k) (pow_pos k) (sym (pow-suc 2 k) ∙ sym (one-mul (2 ^ suc k)) ∙ h))
  where
    two_up : (p : ℕ) → 0 < p → p * 2 ≡ 1 → ⊥
    two_up p h e = omega arith

zero_exp : (s : Bool) (e : ℤ) → T (fits binary64 (fin s zero e)) → e ≡ pos 0
unfolding fits
zero_exp s e t = flat e (eqb→eq (up e * down e) 1 t)

no-sum : (a b : ℕ) → a + suc b ≡ 0 → ⊥
no-sum a b h = omega arith

-- equal products of an odd number and a power of two
same-odd : (m n : ℕ) (e g : ℤ) → m % 2 ≡ 1 → n % 2 ≡ 1 → m * up e * down g ≡ n * up g * down e → (m ≡ n) × (e ≡ g)
same-odd m n (pos a) (pos b) o p h = let r = odd_pow m n a b o p (sym (mul-one (m * 2 ^ a)) ∙ h ∙ mul-one (n * 2 ^ b)) in (r.0, ap pos r.1)
same-odd m n (pos a) (negsuc b) o p h =
    let r = odd_pow m n (a + suc b) 0 o p (ap (λ (x : ℕ). m * x) (pow-add 2 a (suc b)) ∙ sym (mul_assoc m (2 ^ a) (2 ^ suc b)) ∙ h ∙ mul-one (n * 1)) in
    absurd (no-sum a b r.1)
same-odd m n (negsuc a) (pos b) o p h =
    let r = odd_pow m n 0 (b + suc a) o p (sym (mul-one (m * 1)) ∙ h ∙ mul_assoc n (2 ^ b) (2 ^ suc a) ∙ ap (λ (x : ℕ). n * x) (sym (pow-add 2 b (suc a)))) in
    absurd (no-sum b a (sym r.1))
same-odd m n (negsuc a) (negsuc b) o p h =
    let r = odd_pow m n (suc b) (suc a) o p (ap (λ (x : ℕ). x * 2 ^ suc b) (sym (mul-one m)) ∙ h ∙ ap (λ (x : ℕ). x * 2 ^ suc a) (mul-one n)) in
    (r.0, ap negsuc (suc-same r.1))
  where
    suc-same : {a b : ℕ} → suc b ≡ suc a → a ≡ b
    suc-same {a} {b} h = omega arith

-- ---- size and sign of what a float means

abs-mul : (v : ℤ) (k : ℕ) → nat_abs (v *ℤ pos k) ≡ nat_abs v * k
abs-mul (pos a) k = refl
abs-mul (negsuc a) k = abs-signed true (suc a * k)

pub size_of : (s : Bool) (m : ℕ) (e : ℤ) (v : ℤ) → Means (fin s m e) v → m * up e * 2 ^ 312 ≡ nat_abs v * down e
size_of s m e v h = sym (abs-signed s (m * up e * 2 ^ 312)) ∙ ap nat_abs h ∙ abs-mul v (down e)

abbrev pub is_neg : ℤ → Bool
is_neg (pos a) = false
is_neg (negsuc a) = true

pub sign_of : (s : Bool) (a : ℕ) (v : ℤ) (k : ℕ) → 0 < a → signed s a ≡ v *ℤ pos k → s ≡ is_neg v
sign_of false a (pos n) k h e = refl
sign_of true zero (pos n) k h e = absurd (lt_irrefl 0 h)
sign_of true (suc a) (pos n) k h e = absurd (pos-ne-negsuc (n * k) a (sym e))
sign_of false a (negsuc n) k h e = go (suc n * k) e
  where
    go : (p : ℕ) → pos a ≡ neg_ℤ (pos p) → false ≡ true
    go zero q = absurd (lt_irrefl 0 (subst (λ (x : ℕ). 0 < x) (ap nat_abs q) h))
    go (suc p) q = absurd (pos-ne-negsuc a p q)
sign_of true a (negsuc n) k h e = refl

-- ---- one double

abbrev minus_zero : Float
minus_zero = fin true 0 (pos 0)

-- a size of 0 has m = 0
none : (m : ℕ) (e : ℤ) → m * up e * 2 ^ 312 ≡ 0 → m ≡ 0
none zero e h = refl
none (suc m) e h = absurd (lt_irrefl 0 (subst (λ (x : ℕ). 0 < x) h (mul-pos (mul-pos (zero-lt-suc m) (up_pos e)) (pow_pos 312))))

zero-size : (s : Bool) (e : ℤ) (v : ℤ) → Means (fin s 0 e) v → nat_abs v ≡ 0
zero-size s e v h =
    eq_of_mul-eq-mul_right (down e) (down_pos e) (nat_abs v) 0
    (sym (size_of s 0 e v h) ∙ ap (λ (x : ℕ). x * 2 ^ 312) (zero-mul (up e)) ∙ zero-mul (2 ^ 312) ∙ sym (zero-mul (down e)))

plus : (s : Bool) (e : ℤ) → e ≡ pos 0 → (fin s 0 e ≡ minus_zero → ⊥) → fin s 0 e ≡ fin false 0 (pos 0)
plus false e q h = ap (fin false 0) q
plus true e q h = absurd (h (ap (fin true 0) q))

cross : (a b x y c v : ℕ) → 0 < c → a * c ≡ v * x → b * c ≡ v * y → a * y ≡ b * x
cross a b x y c v h p q =
    eq_of_mul-eq-mul_right c h (a * y) (b * x)
    (mul_right_comm a y c ∙ ap (λ (k : ℕ). k * y) p ∙ mul_right_comm v x y ∙ ap (λ (k : ℕ). k * x) (sym q) ∙ mul_right_comm b c x)

pub one-double : (x y : Float) (v : ℤ) → T (fits binary64 x) → T (fits binary64 y) → Means x v → Means y v → (x ≡ minus_zero → ⊥) → (y ≡ minus_zero → ⊥) → x ≡ y
one-double nan y v p q a b h k = absurd a
one-double (inf s) y v p q a b h k = absurd a
one-double (fin s m e) nan v p q a b h k = absurd b
one-double (fin s m e) (inf t) v p q a b h k = absurd b
one-double (fin s zero e) (fin t zero g) v p q a b h k = plus s e (zero_exp s e p) h ∙ sym (plus t g (zero_exp t g q) k)
one-double (fin s zero e) (fin t (suc n) g) v p q a b h k =
    absurd (suc-ne-zero n (none (suc n) g (size_of t (suc n) g v b ∙ ap (λ (x : ℕ). x * down g) (zero-size s e v a) ∙ zero-mul (down g))))
one-double (fin s (suc m) e) (fin t zero g) v p q a b h k =
    absurd (suc-ne-zero m (none (suc m) e (size_of s (suc m) e v a ∙ ap (λ (x : ℕ). x * down e) (zero-size t g v b) ∙ zero-mul (down e))))
one-double (fin s (suc m) e) (fin t (suc n) g) v p q a b h k =
    let r = same-odd (suc m) (suc n) e g (is_odd s m e p) (is_odd t n g q)
    (cross (suc m * up e) (suc n * up g) (down e) (down g) (2 ^ 312) (nat_abs v) (pow_pos 312) (size_of s (suc m) e v a) (size_of t (suc n) g v b)) in
    let i : s ≡ is_neg v = sign_of s (suc m * up e * 2 ^ 312) v (down e) (mul-pos (mul-pos (zero-lt-suc m) (up_pos e)) (pow_pos 312)) a in
    let j : t ≡ is_neg v = sign_of t (suc n * up g * 2 ^ 312) v (down g) (mul-pos (mul-pos (zero-lt-suc n) (up_pos g)) (pow_pos 312)) b in
    let u : suc m ≡ suc n = r.0 in
    let w : e ≡ g = r.1 in
    cc

-- the answer is the exact one of x exactly when x is a double other than -0 and has the real's value
pub exact-only : (w : ℕ) (x : Float) → T (fits binary64 x) → Means x (value w) → (x ≡ minus_zero → ⊥) → answer w ≡ Exact x
exact-only w x f v z =
    means-exact w x f v ∙ ap Exact (one-double (double w) x (value w) (double-fits w) f (double-means w (exact-of w x f v)) v (double-plus w (exact-of w x f v)) z)
