-- Laws of decimal digits: callers use these in place of the definition's turns. Assumes nothing.
use mathlib.Core.Path.{◌≡◌, refl, ap, ◌∙◌}
use mathlib.Core.Bool.{Bool, true, false}
use mathlib.Core.List.{List, ◌++◌}
use Prim.Native.Nat.{ℕ, zero, suc, ◌*◌, ◌/◌, ◌%◌, ◌≤◌, ◌<◌}
use native.Mathlib.Omega.{arith}
use borrow.Author.Tests.{ltb-true, ltb-false, lt-ltb, le-ltb}
use lib.Dec.{ltb}
use lib.ListN.{length, length-append}
use Rattle.cgx_ask_listing.specs.Listing.{digit, decimal_in, decimal}

-- what a turn makes of its test and of the digits before the last
abbrev made : Bool → ℕ → List ℕ → List ℕ
made b n more = elim b [ true ↦ digit n | false ↦ more ++ digit (n % 10) ]

-- with turns enough, their number does not matter
enough : (k j n : ℕ) → n < k → n < j → decimal_in k n ≡ decimal_in j n
unfolding decimal_in
enough zero j n h g = absurd (omega arith)
enough (suc k) zero n h g = absurd (omega arith)
enough (suc k) (suc j) n h g = one (ltb n 10) refl (λ p q. enough k j (n / 10) p q)
  where
    one : (b : Bool) → ltb n 10 ≡ b → (n / 10 < k → n / 10 < j → decimal_in k (n / 10) ≡ decimal_in j (n / 10)) → made b n (decimal_in k (n / 10)) ≡ made b n (decimal_in j (n / 10))
    one true e ih = refl
    one false e ih = let l = ltb-false n 10 e in ap (λ (x : List ℕ). x ++ digit (n % 10)) (ih (omega arith) (omega arith))

pub decimal-one : (n : ℕ) → n < 10 → decimal n ≡ digit n
unfolding decimal decimal_in
decimal-one n h = ap (λ (b : Bool). made b n (decimal_in n (n / 10))) (lt-ltb n 10 h)

pub decimal-more : (n : ℕ) → 10 ≤ n → decimal n ≡ decimal (n / 10) ++ digit (n % 10)
unfolding decimal decimal_in
decimal-more n h =
    ap (λ (b : Bool). made b n (decimal_in n (n / 10))) (le-ltb n 10 h)
    ∙ ap (λ (x : List ℕ). x ++ digit (n % 10)) (enough n (suc (n / 10)) (n / 10) (omega arith) (omega arith))

-- ---- how many digits there are

-- numbers below m have at most d digits
abbrev Within : ℕ → ℕ → Type 0
Within m d = (n : ℕ) → n < m → length (decimal n) ≤ d

ten : Within 10 1
ten n h = omega (arith, ap length (decimal-one n h))

times-ten : (m d : ℕ) → 1 ≤ d → Within m d → Within (10 * m) (suc d)
times-ten m d s w n h = one (ltb n 10) refl
  where
    one : (b : Bool) → ltb n 10 ≡ b → length (decimal n) ≤ suc d
    one true e = omega (arith, ten n (ltb-true n 10 e))
    one false e =
        let l = ltb-false n 10 e in
        omega (arith, ap length (decimal-more n l), length-append (decimal (n / 10)) (digit (n % 10)), w (n / 10) (omega arith))

-- offsets in a file of 65,536 bytes
pub decimal-short : (n : ℕ) → n < 100000 → length (decimal n) ≤ 5
decimal-short =
    times-ten 10000 4 (omega arith) (times-ten 1000 3 (omega arith) (times-ten 100 2 (omega arith) (times-ten 10 1 (omega arith) ten)))
