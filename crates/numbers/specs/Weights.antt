-- 01, "Bytes and numbers": a long a second time, by the weights of its bits. Definitions only.
use Rattle.std.specs.Prelude.{ℕ, ◌+◌, ◌*◌, ◌/◌, ◌%◌, ◌^◌, ℤ}
use Rattle.std.proofs.Math.IntN.{sub_ℕ}

-- "two's complement": of the 32 bits the first weighs −2³¹, and each other one what it weighs in a number.
abbrev pub weighed : ℕ → ℕ → ℕ → ℕ → ℤ
weighed a b c d = sub_ℕ (a % 128 * 2 ^ 24 + b * 2 ^ 16 + c * 2 ^ 8 + d) (a / 128 * 2 ^ 31)
