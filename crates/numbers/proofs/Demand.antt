-- What is proved of longs. Assumes nothing.
use mathlib.Core.Path.{◌≡◌, refl, sym, ap, ap₂, ◌∙◌, subst}
use mathlib.Core.Logic.{◌↔◌}
use mathlib.Core.Bool.{Bool, true, false}
use mathlib.Core.List.{List, [], ◌∷◌, ◌++◌}
use Prim.Native.Nat.{ℕ, zero, suc, ◌+◌, ◌*◌, ◌-◌, ◌/◌, ◌%◌, ◌^◌, ◌≤◌, ◌<◌}
use native.Mathlib.Omega.{arith}
use borrow.Author.Tests.{lt-ltb, le-ltb, ltb-true, ltb-false}
use lib.Dec.{T, ltb}
use lib.IntN.{pos, negsuc, sub_ℕ}
use lib.ListN.{length, take, drop, length-drop, take-append-drop}
use lib.Seq.{length-take-le}
use Rattle.cgx_spec.specs.Numbers.{Bytes, number, twos, long_of}
use Rattle.cgx_spec.specs.Strings.{same}
use Rattle.cgx_spec.proofs.Lists.{same→eq, same_refl, Bytes-take, Bytes-drop}
use Rattle.cgx_spec.proofs.NumberLaws.{number_bound, twos-low, twos-high, long_same}
use Rattle.numbers.specs.Weights.{weighed}
use Rattle.numbers.specs.Demand.{LongsDemand}

-- ---- the weights

sub-above : (x y : ℕ) → y ≤ x → sub_ℕ x y ≡ pos (x - y)
sub-above x y h = rw (le-ltb x y h) refl

sub-below : (x y : ℕ) → x < y → sub_ℕ x y ≡ negsuc (y - suc x)
sub-below x y h = rw (lt-ltb x y h) refl

weighs : (a b c d : ℕ) → Bytes (a ∷ b ∷ c ∷ d ∷ []) → long_of (a ∷ b ∷ c ∷ d ∷ []) ≡ weighed a b c d
unfolding long_of
weighs a b c d h = by_sign (ltb a 128) refl (h 0) (h 1) (h 2) (h 3)
  where
    n : ℕ
    n = number (a ∷ b ∷ c ∷ d ∷ [])

    by_sign : (s : Bool) → ltb a 128 ≡ s → a < 256 → b < 256 → c < 256 → d < 256 → twos (2 ^ 31) n ≡ weighed a b c d
    by_sign true e ha hb hc hd =
        let l = ltb-true a 128 e in
        twos-low (2 ^ 31) n (omega arith) ∙ ap pos (omega arith)
        ∙ sym (sub-above (a % 128 * 2 ^ 24 + b * 2 ^ 16 + c * 2 ^ 8 + d) (a / 128 * 2 ^ 31) (omega arith))
    by_sign false e ha hb hc hd =
        let l = ltb-false a 128 e in
        twos-high (2 ^ 31) n (omega arith) (omega arith) ∙ ap negsuc (omega arith)
        ∙ sym (sub-below (a % 128 * 2 ^ 24 + b * 2 ^ 16 + c * 2 ^ 8 + d) (a / 128 * 2 ^ 31) (omega arith))

-- ---- two points

points : (p q : List ℕ) → Bytes p → Bytes q → length p ≡ 8 → length q ≡ 8
    → T (same p q) ↔ ((long_of (take 4 p) ≡ long_of (take 4 q)) × (long_of (drop 4 p) ≡ long_of (drop 4 q)))
points p q hp hq lp lq = (
  (λ t. let e = same→eq p q t in (ap (λ (l : List ℕ). long_of (take 4 l)) e, ap (λ (l : List ℕ). long_of (drop 4 l)) e)),
  (λ e.
      let x = long_same (take 4 p) (take 4 q) (Bytes-take 4 p hp) (Bytes-take 4 q hq) (length-take-le 4 p (omega arith)) (length-take-le 4 q (omega arith)) e.0 in
      let y = long_same (drop 4 p) (drop 4 q) (Bytes-drop 4 p hp) (Bytes-drop 4 q hq) (length-drop 4 p ∙ omega arith) (length-drop 4 q ∙ omega arith) e.1 in
      subst (λ (l : List ℕ). T (same p l)) (sym (take-append-drop 4 p) ∙ ap₂ ◌++◌ x y ∙ take-append-drop 4 q) (same_refl p)),
)

-- ---- 32 bits are enough

joined : (bs : List ℕ) (k : ℕ) → Bytes bs → length bs ≡ 4 → k ≤ 4 → number (take k bs) < 2 ^ 32
joined bs k h l m =
    let b : number (take k bs) < 256 ^ k = number_bound (take k bs) k (Bytes-take k bs h) (length-take-le k bs (omega arith)) in
    small k m b
  where
    small : (k : ℕ) → k ≤ 4 → number (take k bs) < 256 ^ k → number (take k bs) < 2 ^ 32
    small zero m b = omega arith
    small (suc zero) m b = omega arith
    small (suc (suc zero)) m b = omega arith
    small (suc (suc (suc zero))) m b = omega arith
    small (suc (suc (suc (suc zero)))) m b = b
    small (suc (suc (suc (suc (suc k))))) m b = absurd (omega arith)

raised : (bs : List ℕ) (k : ℕ) → Bytes bs → length bs ≡ 4 → k < 4 → number (take k bs) * 256 < 2 ^ 32
raised bs k h l m =
    let b : number (take k bs) < 256 ^ k = number_bound (take k bs) k (Bytes-take k bs h) (length-take-le k bs (omega arith)) in
    small k m b
  where
    small : (k : ℕ) → k < 4 → number (take k bs) < 256 ^ k → number (take k bs) * 256 < 2 ^ 32
    small zero m b = omega arith
    small (suc zero) m b = omega arith
    small (suc (suc zero)) m b = omega arith
    small (suc (suc (suc zero))) m b = omega arith
    small (suc (suc (suc (suc k)))) m b = absurd (omega arith)

negative : (n : ℕ) → 2 ^ 31 ≤ n → n < 2 ^ 32 → (2 ^ 32 - 1 - n < 2 ^ 31) × (twos (2 ^ 31) n ≡ negsuc (2 ^ 32 - 1 - n))
negative n h l = (omega arith, twos-high (2 ^ 31) n h l ∙ ap negsuc (omega arith))

pub longs-demand : LongsDemand
longs-demand =
    record {
      weighs = weighs;
      one_each = long_same;
      points = points;
      joined = joined;
      raised = raised;
      negative = negative;
    }
