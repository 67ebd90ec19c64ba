-- The definitions' outcomes one by one, for the code: which test gives which answer. Assumes nothing.
use mathlib.Core.Path.{◌≡◌, refl, ap, ◌∙◌}
use mathlib.Core.Bool.{Bool, true, false, cond}
use Prim.Native.Nat.{ℕ, zero, suc, ◌+◌, ◌-◌, ◌*◌, ◌/◌, ◌%◌, ◌^◌, ◌<◌, ◌≤◌}
use native.Mathlib.Nat.{mod-eq_of_lt, mod-add-div', div-mul-le_self, lt_of_lt_of_le}
use native.Mathlib.Omega.{arith}
use borrow.Author.Tests.{lt-ltb, le-ltb, eqb-true, eqb-false, eq-eqb, ne_eqb, le-leb, lt-leb}
use lib.Dec.{leb, eqb, lit≤}
use lib.Pow.{shl_lt, shr_le, pow_mono}
use Rattle.std.specs.Prelude.{Some, None}
use Rattle.std.specs.Bool.{then_some}
use Rattle.cgx_spec.specs.Reals.{pack}
use Rattle.doubles.specs.Doubles.{field, significand, real, raised, lowered, real_from}

-- ---- the mantissa has room for it

pub up_lt : (b k : ℕ) → significand b * 2 ^ (k % 4) < 2 ^ 56
up_lt b k = let l : 53 + k % 4 ≤ 56 = omega arith in lt_of_lt_of_le (shl_lt 53 (k % 4) (omega arith)) (pow_mono l)

pub down_lt : (b k : ℕ) → significand b / 2 ^ k < 2 ^ 56
down_lt b k = let h = shr_le (significand b) k in omega arith

-- ---- the word

pub real-is : (b e m : ℕ) → b < 2 ^ 64 → b / 2 ^ 63 * 2 ^ 63 + e * 2 ^ 56 + m ≡ real b e m
unfolding pack
real-is b e m h = go (b / 2 ^ 63) refl
  where
    go : (s : ℕ) → b / 2 ^ 63 ≡ s → b / 2 ^ 63 * 2 ^ 63 + e * 2 ^ 56 + m ≡ cond (leb (2 ^ 63) b) (2 ^ 63) 0 + e * 2 ^ 56 + m
    go zero q = let t : leb (2 ^ 63) b ≡ false = lt-leb (2 ^ 63) b (omega arith) in rw t (omega arith)
    go (suc s) q = let t : leb (2 ^ 63) b ≡ true = le-leb (2 ^ 63) b (omega arith) in rw t (omega arith)

-- ---- times 2 ^ k

pub raised-none : (b k : ℕ) → 128 ≤ k / 4 → None ≡ raised b k
unfolding raised
raised-none b k h = rw (le-ltb (k / 4) 128 h)

pub raised-some : (b k : ℕ) → k / 4 < 128 → Some (real b (k / 4) (significand b * 2 ^ (k % 4) % 2 ^ 64)) ≡ raised b k
unfolding raised
raised-some b k h = rw (lt-ltb (k / 4) 128 h) (ap (λ (m : ℕ). Some (real b (k / 4) m)) (mod-eq_of_lt (lt_of_lt_of_le (up_lt b k) (lit≤ tt))))

-- ---- by 2 ^ k

whole : (n k : ℕ) → n < 2 ^ 64 → n % 2 ^ k ≡ 0 → n / 2 ^ k * 2 ^ k % 2 ^ 64 ≡ n
whole n k h z =
    let q : n % 2 ^ k + n / 2 ^ k * 2 ^ k ≡ n = mod-add-div' n (2 ^ k) in
    let e : n / 2 ^ k * 2 ^ k ≡ n = omega arith in
    ap (λ (x : ℕ). x % 2 ^ 64) e ∙ mod-eq_of_lt h

no-rest : (n k : ℕ) → n < 2 ^ 64 → n / 2 ^ k * 2 ^ k % 2 ^ 64 ≡ n → n % 2 ^ k ≡ 0
no-rest n k h e =
    let q : n % 2 ^ k + n / 2 ^ k * 2 ^ k ≡ n = mod-add-div' n (2 ^ k) in
    let l : n / 2 ^ k * 2 ^ k ≤ n = div-mul-le_self n (2 ^ k) in
    omega arith

pub lowered-far : (b k : ℕ) → 52 < k → None ≡ lowered b k
unfolding lowered
lowered-far b k h =
    let p : 2 ^ 53 ≤ 2 ^ k = pow_mono h in
    let q : significand b % 2 ^ k ≡ significand b = mod-eq_of_lt (omega arith) in
    rw (ne_eqb (significand b % 2 ^ k) 0 (λ z. omega arith))

lowered_none : (b k : ℕ) → (significand b / 2 ^ k * 2 ^ k % 2 ^ 64 ≡ significand b → ⊥) → None ≡ lowered b k
unfolding lowered
lowered_none b k h = rw (ne_eqb (significand b % 2 ^ k) 0 (λ z. h (whole (significand b) k (omega arith) z)))

lowered-some : (b k : ℕ) → significand b / 2 ^ k * 2 ^ k % 2 ^ 64 ≡ significand b → Some (real b 0 (significand b / 2 ^ k)) ≡ lowered b k
unfolding lowered
lowered-some b k h = rw (eq-eqb (significand b % 2 ^ k) 0 (no-rest (significand b) k (omega arith) h))

-- as code asks it: whether the significand comes back when it is shifted up again
pub lowered-is : (b k : ℕ) → then_some (eqb (significand b / 2 ^ k * 2 ^ k % 2 ^ 64) (significand b)) (real b 0 (significand b / 2 ^ k)) ≡ lowered b k
lowered-is b k = go (eqb n (significand b)) refl
  where
    n : ℕ
    n = significand b / 2 ^ k * 2 ^ k % 2 ^ 64

    go : (t : Bool) → eqb n (significand b) ≡ t → then_some t (real b 0 (significand b / 2 ^ k)) ≡ lowered b k
    go true q = lowered-some b k (eqb-true n (significand b) q)
    go false q = lowered_none b k (eqb-false n (significand b) q)

-- ---- the whole answer

pub from_zero : (b : ℕ) → b ≡ 0 → Some 0 ≡ real_from b
unfolding real_from
from_zero b z = rw (eq-eqb b 0 z)

pub from-none : (b : ℕ) → (b ≡ 0 → ⊥) → field b ≡ 0 → None ≡ real_from b
unfolding real_from
from-none b n z = rw (ne_eqb b 0 n, eq-eqb (field b) 0 z)

pub from-ones : (b : ℕ) → (b ≡ 0 → ⊥) → (field b ≡ 0 → ⊥) → field b ≡ 2047 → None ≡ real_from b
unfolding real_from
from-ones b n z o = rw (ne_eqb b 0 n, ne_eqb (field b) 0 z, eq-eqb (field b) 2047 o)

module _ (b : ℕ) (n : b ≡ 0 → ⊥) (z : field b ≡ 0 → ⊥) (o : field b ≡ 2047 → ⊥) where
  pub from_low : field b < 763 → lowered b (763 - field b) ≡ real_from b
  unfolding real_from
  from_low h = rw (ne_eqb b 0 n, ne_eqb (field b) 0 z, ne_eqb (field b) 2047 o, lt-ltb (field b) 763 h)

  pub from-high : 763 ≤ field b → raised b (field b - 763) ≡ real_from b
  unfolding real_from
  from-high h = rw (ne_eqb b 0 n, ne_eqb (field b) 0 z, ne_eqb (field b) 2047 o, le-ltb (field b) 763 h)
