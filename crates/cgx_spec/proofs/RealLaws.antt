-- Laws of the reals: the normal real has the same value, equal values are equal normal reals, and an exact answer is the real's own value. Assumes nothing.
use mathlib.Core.Path.{◌≡◌, refl, sym, ap, ◌∙◌, subst}
use mathlib.Core.Logic.{◌⊎◌, inl, inr}
use mathlib.Core.Bool.{Bool, true, false, not, ◌&&◌, cond}
use mathlib.Core.List.{List}
use Prim.Native.Nat.{ℕ, zero, suc, ◌+◌, ◌-◌, ◌*◌, ◌/◌, ◌%◌, ◌^◌, ◌<◌, ◌≤◌}
use native.Mathlib.Nat.{zero-mul, zero-lt-suc, mul-one, mul-pos, mul_assoc, pow-suc, pow-succ', mod-eq_of_lt, le_refl, lt_irrefl, le_step, eq_of_mul-eq-mul_right, le-mul_of_pos_right, suc-ne-zero, eq-zero-or-pos}
use native.Mathlib.Omega.{arith}
use borrow.Author.Tests.{lt-ltb, le-ltb, eq-eqb, ne_eqb, ltb-true, ltb-false, leb-true, leb-false}
use lib.IntN.{pos, neg_ℤ, nat_abs, pos-ne-negsuc}
use lib.Signed.{lt_z}
use lib.Dec.{T, ltb, leb, eqb}
use lib.ListN.{length}
use Rattle.cgx_spec.specs.Numbers.{number, digits, Bytes}
use Rattle.cgx_spec.proofs.NumberLaws.{digits-bytes, number_digits}
use Rattle.cgx_spec.specs.Reals.{negative, exponent, mantissa, pack, signed, value, positive, lower, minus, normal, IsNormal, real_of, positive_real, normal_real}

-- ---- the parts

pub negative-no : (w : ℕ) → w < 2 ^ 63 → negative w ≡ false
unfolding negative
negative-no w h = ne_eqb (w / 2 ^ 63 % 2) 1 (λ e. omega arith)

pub negative-yes : (w : ℕ) → 2 ^ 63 ≤ w → w < 2 ^ 64 → negative w ≡ true
unfolding negative
negative-yes w h k = eq-eqb (w / 2 ^ 63 % 2) 1 (omega arith)

pub negative-leb : (w : ℕ) → w < 2 ^ 64 → negative w ≡ leb (2 ^ 63) w
negative-leb w h = go (leb (2 ^ 63) w) refl
  where
    go : (b : Bool) → leb (2 ^ 63) w ≡ b → negative w ≡ b
    go true q = negative-yes w (leb-true (2 ^ 63) w q) h
    go false q = negative-no w (leb-false (2 ^ 63) w q)

pub mantissa-lt : (w : ℕ) → mantissa w < 2 ^ 56
unfolding mantissa
mantissa-lt w = omega arith

pub exponent_lt : (w : ℕ) → exponent w < 128
unfolding exponent
exponent_lt w = omega arith

-- what `pack` joins is read back
pub pack-lt : (s : Bool) (e m : ℕ) → e < 128 → m < 2 ^ 56 → pack s e m < 2 ^ 64
unfolding pack
pack-lt true e m h k = omega arith
pack-lt false e m h k = omega arith

pub negative-pack : (s : Bool) (e m : ℕ) → e < 128 → m < 2 ^ 56 → negative (pack s e m) ≡ s
unfolding pack
negative-pack true e m h k = negative-yes (2 ^ 63 + e * 2 ^ 56 + m) (omega arith) (omega arith)
negative-pack false e m h k = negative-no (0 + e * 2 ^ 56 + m) (omega arith)

pub exponent-pack : (s : Bool) (e m : ℕ) → e < 128 → m < 2 ^ 56 → exponent (pack s e m) ≡ e
unfolding pack exponent
exponent-pack true e m h k = omega arith
exponent-pack false e m h k = omega arith

pub mantissa-pack : (s : Bool) (e m : ℕ) → e < 128 → m < 2 ^ 56 → mantissa (pack s e m) ≡ m
unfolding pack mantissa
mantissa-pack true e m h k = omega arith
mantissa-pack false e m h k = omega arith

-- ---- powers of sixteen

pub pow16-pos : (e : ℕ) → 0 < 16 ^ e
pow16-pos zero = zero-lt-suc 0
pow16-pos (suc e) = rw (pow-suc 16 e) (mul-pos (pow16-pos e) (zero-lt-suc 15))

-- ---- above zero

positive-at : (s : Bool) (m p : ℕ) → 0 < p → lt_z (pos 0) (signed s (m * p)) ≡ not s && ltb 0 m
positive-at false zero p h = ap (λ (n : ℕ). ltb 0 n) (zero-mul p)
positive-at false (suc m) p h = lt-ltb 0 (suc m * p) (mul-pos (zero-lt-suc m) h) ∙ sym (lt-ltb 0 (suc m) (zero-lt-suc m))
positive-at true m p h = go (m * p)
  where
    go : (n : ℕ) → lt_z (pos 0) (neg_ℤ (pos n)) ≡ false
    go zero = refl
    go (suc n) = refl

pub positive-parts : (w : ℕ) → positive w ≡ not (negative w) && ltb 0 (mantissa w)
unfolding positive value
positive-parts w = positive-at (negative w) (mantissa w) (16 ^ exponent w) (pow16-pos (exponent w))

-- ---- the normal real

-- what `lower` makes of e and m: the same product, a smaller exponent, and a mantissa of 56 bits that is 2 ^ 52 at least where the exponent is not 0
record Lowered (e m : ℕ) (p : ℕ × ℕ) : Type 0 where
  same : p.1 * 16 ^ p.0 ≡ m * 16 ^ e
  less : p.0 ≤ e
  small : p.1 < 2 ^ 56
  full : (p.0 ≡ 0) ⊎ (2 ^ 52 ≤ p.1)

sixteen : (m e : ℕ) → m * 16 * 16 ^ e ≡ m * 16 ^ suc e
sixteen m e = mul_assoc m 16 (16 ^ e) ∙ ap (λ (k : ℕ). m * k) (sym (pow-succ' 16 e))

lowered : (e m : ℕ) → m < 2 ^ 56 → Lowered e m (lower e m)
unfolding lower
lowered zero m h = record { same = refl; less = le_refl 0; small = h; full = inl refl }
lowered (suc e) m h = go (ltb m (2 ^ 52)) refl (lowered e (m * 16))
  where
    go : (b : Bool) → ltb m (2 ^ 52) ≡ b → (m * 16 < 2 ^ 56 → Lowered e (m * 16) (lower e (m * 16)))
        → Lowered (suc e) m (cond b (lower e (m * 16)) (suc e, m))
    go true q ih =
        let k : m < 2 ^ 52 = ltb-true m (2 ^ 52) q in
        let r = ih (omega arith) in
        record { same = r.same ∙ sixteen m e; less = le_step r.less; small = r.small; full = r.full }
    go false q ih = record { same = refl; less = le_refl (suc e); small = h; full = inr (ltb-false m (2 ^ 52) q) }

-- a product m * 16 ^ e with such an m has one such e and m
no_room : (m n p : ℕ) → m < 2 ^ 56 → 2 ^ 52 ≤ n → 0 < p → m ≡ n * p * 16 → ⊥
no_room m n p h k q e = let l : n ≤ n * p = le-mul_of_pos_right n q in omega arith

normal-one : (e m f n : ℕ) → m < 2 ^ 56 → n < 2 ^ 56 → (e ≡ 0) ⊎ (2 ^ 52 ≤ m) → (f ≡ 0) ⊎ (2 ^ 52 ≤ n) → m * 16 ^ e ≡ n * 16 ^ f → (e ≡ f) × (m ≡ n)
normal-one zero m zero n h k a b q = (refl, sym (mul-one m) ∙ q ∙ mul-one n)
normal-one zero m (suc f) n h k a (inl b) q = absurd (suc-ne-zero f b)
normal-one zero m (suc f) n h k a (inr b) q =
    absurd (no_room m n (16 ^ f) h b (pow16-pos f) (sym (mul-one m) ∙ q ∙ ap (λ (x : ℕ). n * x) (pow-suc 16 f) ∙ sym (mul_assoc n (16 ^ f) 16)))
normal-one (suc e) m zero n h k (inl a) b q = absurd (suc-ne-zero e a)
normal-one (suc e) m zero n h k (inr a) b q =
    absurd (no_room n m (16 ^ e) k a (pow16-pos e) (sym (mul-one n) ∙ sym q ∙ ap (λ (x : ℕ). m * x) (pow-suc 16 e) ∙ sym (mul_assoc m (16 ^ e) 16)))
normal-one (suc e) m (suc f) n h k (inl a) b q = absurd (suc-ne-zero e a)
normal-one (suc e) m (suc f) n h k (inr a) (inl b) q = absurd (suc-ne-zero f b)
normal-one (suc e) m (suc f) n h k (inr a) (inr b) q =
    let r = normal-one e m f n h k (inr a) (inr b)
    (eq_of_mul-eq-mul_right 16 (zero-lt-suc 15) (m * 16 ^ e) (n * 16 ^ f)
    (mul_assoc m (16 ^ e) 16 ∙ ap (λ (x : ℕ). m * x) (sym (pow-suc 16 e)) ∙ q ∙ ap (λ (x : ℕ). n * x) (pow-suc 16 f) ∙ sym (mul_assoc n (16 ^ f) 16))) in
    (ap suc r.0, r.1)

-- the parts of the normal real
pub normal-lt : (w : ℕ) → normal w < 2 ^ 64
unfolding normal
normal-lt w =
    let r = lowered (exponent w) (mantissa w) (mantissa-lt w) in
    let h : exponent w < 128 = exponent_lt w in
    pack-lt (minus w) (lower (exponent w) (mantissa w)).0 (lower (exponent w) (mantissa w)).1 (le-lt r.less h) r.small
  where
    le-lt : {a b c : ℕ} → a ≤ b → b < c → a < c
    le-lt {a} {b} {c} h k = omega arith

module _ (w : ℕ) where
  abbrev low-e : ℕ
  low-e = (lower (exponent w) (mantissa w)).0

  abbrev low-m : ℕ
  low-m = (lower (exponent w) (mantissa w)).1

  low : Lowered (exponent w) (mantissa w) (lower (exponent w) (mantissa w))
  low = lowered (exponent w) (mantissa w) (mantissa-lt w)

  low-e-lt : low-e < 128
  low-e-lt = let h : exponent w < 128 = exponent_lt w in let k = low.less in omega arith

  normal-negative : negative (normal w) ≡ minus w
  unfolding normal
  normal-negative = negative-pack (minus w) low-e low-m low-e-lt low.small

  normal-exponent : exponent (normal w) ≡ low-e
  unfolding normal
  normal-exponent = exponent-pack (minus w) low-e low-m low-e-lt low.small

  normal-mantissa : mantissa (normal w) ≡ low-m
  unfolding normal
  normal-mantissa = mantissa-pack (minus w) low-e low-m low-e-lt low.small

  -- the product is that of w
  normal-product : mantissa (normal w) * 16 ^ exponent (normal w) ≡ mantissa w * 16 ^ exponent w
  normal-product = rw (normal-mantissa, normal-exponent) low.same

-- the sign of a zero does not count
sign-out : (s : Bool) (m p : ℕ) → signed (s && not (eqb m 0)) (m * p) ≡ signed s (m * p)
sign-out false m p = refl
sign-out true zero p = rw (zero-mul p)
sign-out true (suc m) p = ap (λ (b : Bool). signed (not b) (suc m * p)) (ne_eqb (suc m) 0 (suc-ne-zero m))

-- the normal real has the same value
pub normal-value : (w : ℕ) → value (normal w) ≡ value w
unfolding value minus
normal-value w = rw (normal-negative, normal-product) (sign-out (negative w) (mantissa w) (16 ^ exponent w))

-- the normal real is normal: its mantissa is 2 ^ 52 at least or its exponent 0, and with the mantissa 0 it is 0
pub normal-full : (w : ℕ) → (exponent (normal w) ≡ 0) ⊎ (2 ^ 52 ≤ mantissa (normal w))
normal-full w = rw (normal-mantissa, normal-exponent) (low w).full

-- ---- equal values are equal normal reals

abs_neg : (n : ℕ) → nat_abs (neg_ℤ (pos n)) ≡ n
abs_neg zero = refl
abs_neg (suc n) = refl

sign-one : (s t : Bool) (n k : ℕ) → (T s → 0 < n) → (T t → 0 < k) → signed s n ≡ signed t k → (s ≡ t) × (n ≡ k)
sign-one false false n k a b q = (refl, ap nat_abs q)
sign-one true true n k a b q = (refl, sym (abs_neg n) ∙ ap nat_abs q ∙ abs_neg k)
sign-one true false zero k a b q = absurd (lt_irrefl 0 (a tt))
sign-one true false (suc n) k a b q = absurd (pos-ne-negsuc k n (sym q))
sign-one false true n zero a b q = absurd (lt_irrefl 0 (b tt))
sign-one false true n (suc k) a b q = absurd (pos-ne-negsuc n k q)

above : (s : Bool) (m p : ℕ) → 0 < p → T (s && not (eqb m 0)) → 0 < m * p
above false m p h t = absurd t
above true zero p h t = absurd t
above true (suc m) p h t = mul-pos (zero-lt-suc m) h

pub minus-above : (w : ℕ) → T (minus w) → 0 < mantissa w * 16 ^ exponent w
unfolding minus
minus-above w t = above (negative w) (mantissa w) (16 ^ exponent w) (pow16-pos (exponent w)) t

-- the value with the sign of a zero left out
pub value-minus : (w : ℕ) → value w ≡ signed (minus w) (mantissa w * 16 ^ exponent w)
unfolding value minus
value-minus w = sym (sign-out (negative w) (mantissa w) (16 ^ exponent w))

pub normal-only : (w v : ℕ) → value w ≡ value v → normal w ≡ normal v
unfolding normal
normal-only w v q =
    let r = sign-one (minus w) (minus v) (mantissa w * 16 ^ exponent w) (mantissa v * 16 ^ exponent v) (minus-above w) (minus-above v)
    (sym (value-minus w) ∙ q ∙ value-minus v) in
    let a = low w in
    let b = low v in
    let u = normal-one (low-e w) (low-m w) (low-e v) (low-m v) a.small b.small a.full b.full (a.same ∙ r.1 ∙ sym b.same) in
    let x : minus w ≡ minus v = r.0 in
    let y : low-e w ≡ low-e v = u.0 in
    let z : low-m w ≡ low-m v = u.1 in
    cc

-- the other way, with the normal real of a normal real
pub normal-back : (w v : ℕ) → normal w ≡ normal v → value w ≡ value v
normal-back w v q = sym (normal-value w) ∙ ap value q ∙ normal-value v

pub normal-normal : (w : ℕ) → normal (normal w) ≡ normal w
normal-normal w = normal-only (normal w) w (normal-value w)

zero-normal : normal 0 ≡ 0
unfolding normal minus negative mantissa exponent lower pack
zero-normal = refl

zero-value : pos 0 ≡ value 0
unfolding value negative mantissa exponent
zero-value = refl

pub normal-zero : (w : ℕ) → mantissa (normal w) ≡ 0 → normal w ≡ 0
normal-zero w q = normal-only w 0 (v0 (minus w) (minus-above w) refl) ∙ zero-normal
  where
    none : mantissa w * 16 ^ exponent w ≡ 0
    none = sym (normal-product w) ∙ ap (λ (k : ℕ). k * 16 ^ exponent (normal w)) q ∙ zero-mul (16 ^ exponent (normal w))

    v0 : (s : Bool) → (T s → 0 < mantissa w * 16 ^ exponent w) → minus w ≡ s → value w ≡ value 0
    v0 true h e = absurd (lt_irrefl 0 (subst (λ (k : ℕ). 0 < k) none (h tt)))
    v0 false h e = value-minus w ∙ ap (λ (s : Bool). signed s (mantissa w * 16 ^ exponent w)) e ∙ ap pos none ∙ zero-value

-- ---- of eight bytes

back8 : (x : ℕ) → x < 2 ^ 64 → number (digits 8 x) ≡ x
back8 x h = number_digits 8 x ∙ mod-eq_of_lt h

-- the normal real of a list is eight bytes
pub normal_real-length : (b : List ℕ) → length (normal_real b) ≡ 8
unfolding normal_real
normal_real-length b = refl

pub normal_real-bytes : (b : List ℕ) → Bytes (normal_real b)
unfolding normal_real
normal_real-bytes b = digits-bytes 8 _

pub number-normal_real : (b : List ℕ) → number (normal_real b) ≡ normal (number b)
unfolding normal_real
number-normal_real b = back8 (normal (number b)) (normal-lt (number b))

-- it has the same value
pub normal_real-value : (b : List ℕ) → real_of (normal_real b) ≡ real_of b
unfolding real_of
normal_real-value b = ap value (number-normal_real b) ∙ normal-value (number b)

pub normal_real-positive : (b : List ℕ) → positive_real (normal_real b) ≡ positive_real b
unfolding positive_real positive
normal_real-positive b = ap (λ (w : ℕ). lt_z (pos 0) (value w)) (number-normal_real b) ∙ ap (λ z. lt_z (pos 0) z) (normal-value (number b))

-- two reals are equal exactly when their normal reals are the same bytes
pub normal_real-only : (a b : List ℕ) → real_of a ≡ real_of b → normal_real a ≡ normal_real b
unfolding real_of normal_real
normal_real-only a b q = ap (digits 8) (normal-only (number a) (number b) q)

pub normal_real-back : (a b : List ℕ) → normal_real a ≡ normal_real b → real_of a ≡ real_of b
normal_real-back a b q = sym (normal_real-value a) ∙ ap real_of q ∙ normal_real-value b

pub normal_real-normal_real : (b : List ℕ) → normal_real (normal_real b) ≡ normal_real b
normal_real-normal_real b = normal_real-only (normal_real b) b (normal_real-value b)

-- ---- for the code that makes the normal real

pub lower-step : (e m : ℕ) → m < 2 ^ 52 → 0 < e → lower (e - 1) (m * 16) ≡ lower e m
unfolding lower
lower-step zero m h k = absurd (lt_irrefl 0 k)
lower-step (suc e) m h k =
    let q : suc e - 1 ≡ e = omega arith in
    ap (λ (n : ℕ). lower n (m * 16)) q ∙ sym (ap (λ (b : Bool). cond b (lower e (m * 16)) (suc e, m)) (lt-ltb m (2 ^ 52) h))

pub lower-full : (e m : ℕ) → 2 ^ 52 ≤ m → lower e m ≡ (e, m)
unfolding lower
lower-full zero m h = refl
lower-full (suc e) m h = ap (λ (b : Bool). cond b (lower e (m * 16)) (suc e, m)) (le-ltb m (2 ^ 52) h)

pub lower-end : (e m : ℕ) → e ≡ 0 → lower e m ≡ (e, m)
unfolding lower
lower-end zero m q = refl
lower-end (suc e) m q = absurd (suc-ne-zero e q)

lower-zero : (e : ℕ) → lower e 0 ≡ (0, 0)
unfolding lower
lower-zero zero = refl
lower-zero (suc e) = lower-zero e

pub normal-of-zero : (w : ℕ) → mantissa w ≡ 0 → normal w ≡ 0
unfolding normal minus
normal-of-zero w q = rw (q, lower-zero) (go (negative w))
  where
    go : (s : Bool) → pack (s && not (eqb 0 0)) 0 0 ≡ 0
    go true = unfold pack in refl
    go false = unfold pack in refl

pub normal-made : (w e m : ℕ) → w < 2 ^ 64 → (mantissa w ≡ 0 → ⊥) → lower (exponent w) (mantissa w) ≡ (e, m) → normal w ≡ w / 2 ^ 63 * 2 ^ 63 + e * 2 ^ 56 + m
unfolding normal minus
normal-made w e m h z q = rw (q, ne_eqb (mantissa w) 0 z) (go (w / 2 ^ 63 % 2) refl)
  where
    go : (r : ℕ) → w / 2 ^ 63 % 2 ≡ r → pack (negative w && true) e m ≡ w / 2 ^ 63 * 2 ^ 63 + e * 2 ^ 56 + m
    go zero k = let s : negative w ≡ false = negative-no w (omega arith) in rw s (unfold pack in omega arith)
    go (suc r) k = let s : negative w ≡ true = negative-yes w (omega arith) h in rw s (unfold pack in omega arith)

whole : (w : ℕ) → w < 2 ^ 64 → w / 2 ^ 63 * 2 ^ 63 + exponent w * 2 ^ 56 + mantissa w ≡ w
unfolding exponent mantissa
whole w h = omega arith

-- ---- the normal real is the one normal real of its value

pub normal-is : (w : ℕ) → IsNormal (normal w)
normal-is w = record { full = normal-full w; bare = normal-zero w }

pub normal-fixed : (w : ℕ) → w < 2 ^ 64 → IsNormal w → normal w ≡ w
normal-fixed w h n = go (eq-zero-or-pos (mantissa w))
  where
    ends : (exponent w ≡ 0) ⊎ (2 ^ 52 ≤ mantissa w) → lower (exponent w) (mantissa w) ≡ (exponent w, mantissa w)
    ends (inl e) = lower-end (exponent w) (mantissa w) e
    ends (inr e) = lower-full (exponent w) (mantissa w) e

    go : (mantissa w ≡ 0) ⊎ (0 < mantissa w) → normal w ≡ w
    go (inl z) = normal-of-zero w z ∙ sym (n.bare z)
    go (inr z) = normal-made w (exponent w) (mantissa w) h (λ q. omega arith) (ends n.full) ∙ whole w h

pub normal-unique : (w v : ℕ) → v < 2 ^ 64 → IsNormal v → value v ≡ value w → v ≡ normal w
normal-unique w v h n q = sym (normal-fixed v h n) ∙ normal-only v w q
