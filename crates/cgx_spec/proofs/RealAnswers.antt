-- What the answer of a real says of its value: the laws of `DoubleLaws` and `OneDouble` in the words of `Demands`.
use mathlib.Core.Path.{◌≡◌, refl, sym, ap, ◌∙◌}
use mathlib.Core.Logic.{◌↔◌, ◌⊎◌, inl, inr}
use mathlib.Core.Bool.{Bool, true, false}
use Prim.Native.Nat.{ℕ, zero, suc, ◌≤◌, ◌*◌, ◌/◌, ◌^◌, ◌<◌}
use native.Mathlib.Nat.{mul-div_cancel, div-le_self, eq-zero-or-pos, suc-ne-zero}
use native.Mathlib.Omega.{arith}
use borrow.Author.Tests.{ltb-true}
use lib.Count.{count_trailing_zeros}
use lib.Dec.{T}
use lib.Ieee.{Float, nan, inf, fin, up, down, binary64, fits}
use lib.Ieee.Fits.{down_pos}
use lib.IntN.{ℤ, pos, negsuc, nat_abs}
use Rattle.cgx_spec.specs.declared.Real.TheVariants.{Exact, Inexact}
use Rattle.cgx_spec.specs.Reals.{negative, exponent, mantissa, signed, value, exact, double, answer, Means, float_value, answer_value}
use Rattle.cgx_spec.specs.Demands.{RealPromises}
use Rattle.cgx_spec.proofs.Lists.{true→T, T→true}
use Rattle.cgx_spec.proofs.RealLaws.{normal-is, normal-value, normal-unique}
use Rattle.cgx_spec.proofs.DoubleLaws.{exact-made, answer-exact, answer-inexact, double-means, double-fits, double-plus, exact-of}
use Rattle.cgx_spec.proofs.OneDouble.{is_neg, size_of, sign_of}

-- which of the two answers it is
exact-is : (w : ℕ) (x : Float) → answer w ≡ Exact x → (exact w ≡ true) × (double w ≡ x)
exact-is w x q = go (exact w) refl
  where
    go : (b : Bool) → exact w ≡ b → (exact w ≡ true) × (double w ≡ x)
    go true e = let r : Exact (double w) ≡ Exact x = sym (answer-exact w (double w) e refl) ∙ q in (e, (cc))
    go false e =
        let r : Inexact (negative w) (exponent w) (mantissa w) ≡ Exact x = sym (answer-inexact w e) ∙ q in
        absurd (let z : ◌≡◌ {A = ℕ} 0 1 = cc in omega arith)

inexact-is : (w : ℕ) (s : Bool) (e m : ℕ) → answer w ≡ Inexact s e m → (s ≡ negative w) × (e ≡ exponent w) × (m ≡ mantissa w)
inexact-is w s e m q = go (exact w) refl
  where
    go : (b : Bool) → exact w ≡ b → (s ≡ negative w) × (e ≡ exponent w) × (m ≡ mantissa w)
    go true x =
        let r : Exact (double w) ≡ Inexact s e m = sym (answer-exact w (double w) x refl) ∙ q in
        absurd (let z : ◌≡◌ {A = ℕ} 0 1 = cc in omega arith)
    go false x = let r : Inexact (negative w) (exponent w) (mantissa w) ≡ Inexact s e m = sym (answer-inexact w x) ∙ q in ((cc), (cc), (cc))

answered : (w : ℕ) → exact w ≡ true → (x : Float) × (answer w ≡ Exact x)
answered w e = (double w, answer-exact w (double w) e refl)

exact-means : (w : ℕ) (x : Float) → answer w ≡ Exact x → T (fits binary64 x) × Means x (value w) × (x ≡ fin true 0 (pos 0) → ⊥)
exact-means w x q =
    let d = exact-is w x q in
    rw (← d.1) (double-fits w, double-means w (true→T d.0), double-plus w (true→T d.0))

exact-when : (w : ℕ) → ((x : Float) × (answer w ≡ Exact x)) ↔ (mantissa w / 2 ^ count_trailing_zeros 64 (mantissa w) < 2 ^ 53)
exact-when w = ((λ a. unfold exact in (ltb-true _ _ (exact-is w a.0 a.1).0)), (λ h. answered w (exact-made w h)))

exact-some : (w : ℕ) → ((x : Float) × (answer w ≡ Exact x)) ↔ ((x : Float) × T (fits binary64 x) × Means x (value w))
exact-some w = (
  (λ a. let m = exact-means w a.0 a.1 in (a.0, m.0, m.1)),
  (λ a. answered w (T→true (exact-of w a.0 a.1 a.2))),
)

zero-value : (s : Bool) (v : ℤ) → nat_abs v ≡ 0 → signed s (nat_abs v) ≡ v
zero-value false (pos n) e = refl
zero-value true (pos zero) e = refl
zero-value true (pos (suc n)) e = absurd (suc-ne-zero n e)
zero-value s (negsuc n) e = absurd (suc-ne-zero n e)

none_left : {a b c : ℕ} → a ≡ 0 → b ≤ a → b ≡ c → c ≡ 0
none_left {a} {b} {c} z l q = omega arith

own_sign : (v : ℤ) → signed (is_neg v) (nat_abs v) ≡ v
own_sign (pos n) = refl
own_sign (negsuc n) = refl

-- a float that means v has the value v
float_value_lem : (x : Float) (v : ℤ) → Means x v → float_value x ≡ v
unfolding float_value
float_value_lem nan v h = absurd h
float_value_lem (inf s) v h = absurd h
float_value_lem (fin s n d) v h = ap (signed s) q ∙ go (eq-zero-or-pos a)
  where
    a : ℕ
    a = n * up d * 2 ^ 312

    q : a / down d ≡ nat_abs v
    q = ap (λ (k : ℕ). k / down d) (size_of s n d v h) ∙ mul-div_cancel (nat_abs v) (down_pos d)

    go : (a ≡ 0) ⊎ (0 < a) → signed s (nat_abs v) ≡ v
    go (inl z) = zero-value s v (none_left z (div-le_self a (down d)) q)
    go (inr p) = ap (λ (b : Bool). signed b (nat_abs v)) (sign_of s a v (down d) p h) ∙ own_sign v

answer-value : (w : ℕ) → answer_value (answer w) ≡ value w
unfolding answer_value
answer-value w = go (exact w) refl
  where
    go : (b : Bool) → exact w ≡ b → answer_value (answer w) ≡ value w
    go true e = rw (answer-exact w (double w) e refl) (float_value_lem (double w) (value w) (double-means w (true→T e)))
    go false e = rw (answer-inexact w e) (unfold value in refl)

pub real-promises : RealPromises
real-promises =
    record {
      normal-is = normal-is;
      normal-value = normal-value;
      normal-only = normal-unique;
      exact-means = exact-means;
      exact-when = exact-when;
      exact-some = exact-some;
      answer-value = answer-value;
      inexact-keeps = inexact-is;
    }
