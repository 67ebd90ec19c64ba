-- The real that equals a double, from the double's bits b: one sign bit, eleven exponent bits x, the 52 bits below the leading one. Definitions only.
use Rattle.std.specs.Prelude.{◌||◌, cond, ℕ, ◌+◌, ◌-◌, ◌*◌, ◌/◌, ◌%◌, ◌^◌, ltb, leb, eqb, Option, Some, None}
use Rattle.cgx_spec.specs.Reals.{pack}

-- The exponent bits x, and the significand n with its leading one: the double is ± n × 2^(x − 1075), where x is neither 0 nor 2047.
abbrev pub field : ℕ → ℕ
field b = b / 2 ^ 52 % 2048

abbrev pub significand : ℕ → ℕ
significand b = 2 ^ 52 + b % 2 ^ 52

-- The real with the double's sign, this e and this m.
abbrev pub real : ℕ → ℕ → ℕ → ℕ
real b e m = pack (leb (2 ^ 63) b) e m

-- A real means m × 16^e / 2^312, so m × 16^e is to be n × 2^(x − 763). Here it is n × 2^k, and e has seven bits:
unfoldable pub raised : ℕ → ℕ → Option ℕ
raised b k = cond (ltb (k / 4) 128) (Some (real b (k / 4) (significand b * 2 ^ (k % 4)))) None

-- and here n / 2^k, which is to be whole.
unfoldable pub lowered : ℕ → ℕ → Option ℕ
lowered b k = cond (eqb (significand b % 2 ^ k) 0) (Some (real b 0 (significand b / 2 ^ k))) None

-- +0 is the real zero. With x = 0 (−0, and what is below 2^−1022) and with x = 2047 (infinities, NaNs) no real is read as the double.
unfoldable pub real_from : ℕ → Option ℕ
real_from b =
    cond (eqb b 0) (Some 0)
    (cond (eqb (field b) 0 || eqb (field b) 2047) None (cond (ltb (field b) 763) (lowered b (763 - field b)) (raised b (field b - 763))))
