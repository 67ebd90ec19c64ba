-- Req 06, "old handhelds have 32-bit registers": what is proved of a four-byte number. Statements only. That the code takes no wider step is no statement about what it
-- answers, and nothing in the gate holds it yet (docs/PORT.md).
use Rattle.std.specs.Prelude.{◌≡◌, ◌↔◌, List, [], ◌∷◌, ℕ, ◌*◌, ◌-◌, ◌^◌, ◌≤◌, ◌<◌, T, negsuc, length, take, drop}
use Rattle.cgx_spec.specs.Numbers.{Bytes, number, twos, long_of}
use Rattle.cgx_spec.specs.Strings.{same}
use Rattle.numbers.specs.Weights.{weighed}

pub record LongsDemand : Type 0 where
  -- "The same bytes give the same number": what the weights of their bits come to.
  pub weighs : (a b c d : ℕ) → Bytes (a ∷ b ∷ c ∷ d ∷ []) → long_of (a ∷ b ∷ c ∷ d ∷ []) ≡ weighed a b c d
  -- Other bytes give another number,
  pub one_each : (x y : List ℕ) → Bytes x → Bytes y → length x ≡ 4 → length y ≡ 4 → long_of x ≡ long_of y → x ≡ y
  -- so that a polygon is closed, its last eight bytes being its first, exactly where both longs of the one point are those of the other.
  pub points : (p q : List ℕ) → Bytes p → Bytes q → length p ≡ 8 → length q ≡ 8
      → T (same p q) ↔ ((long_of (take 4 p) ≡ long_of (take 4 q)) × (long_of (drop 4 p) ≡ long_of (drop 4 q)))
  -- "No number used there is wider than 32 bits": none need be. The number of the first k bytes fits, and so does 256 times it where a byte follows;
  pub joined : (bs : List ℕ) (k : ℕ) → Bytes bs → length bs ≡ 4 → k ≤ 4 → number (take k bs) < 2 ^ 32
  pub raised : (bs : List ℕ) (k : ℕ) → Bytes bs → length bs ≡ 4 → k < 4 → number (take k bs) * 256 < 2 ^ 32
  -- and bits from 2³¹ on mean -1 less what they lack to all ones, which fits in the 31 bits that a long has beside its sign.
  pub negative : (n : ℕ) → 2 ^ 31 ≤ n → n < 2 ^ 32 → (2 ^ 32 - 1 - n < 2 ^ 31) × (twos (2 ^ 31) n ≡ negsuc (2 ^ 32 - 1 - n))
