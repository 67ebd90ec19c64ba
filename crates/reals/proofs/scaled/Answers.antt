-- `reals::scaled` is right: the cast is exact, since q is below 2 ^ 53, the pattern is a power of two's, and so the product is rounded from the number itself. Assumes nothing.
use borrow.Author.Tests.{le-ltb}
use mathlib.Core.Bool.{Bool, not}
use mathlib.Core.Path.{sym, subst, ◌∙◌}
use Prim.Native.Nat.{ℕ, ◌*◌, ◌%◌, ◌^◌, ◌≤◌}
use native.Mathlib.Omega.{arith}
use lib.Dec.{T}
use lib.Ieee.{binary64, nan_bits}
use lib.Ieee.Bits.{nan_bits_above}
use Rattle.cgx_spec.proofs.DoubleLaws.{scaled-is}
use Rattle.reals.proofs.scaled.Goals as goal

-- a pattern at most that of infinity is no NaN's
no_nan : (n : ℕ) → n % 2 ^ 63 ≤ 2047 * 2 ^ 52 → T (not (nan_bits binary64 n))
no_nan n h = subst (λ (b : Bool). T (not b)) (sym (nan_bits_above binary64 n ∙ le-ltb (2047 * 2 ^ 52) (n % 2 ^ 63) h)) tt

pub float_from_bits-result : goal.float_from_bits-result
float_from_bits-result c = no_nan _ (omega arith)

pub returns : goal.returns
returns c = scaled-is c.args.q c.args.a c.requires.0 c.requires.1 c.requires.2
