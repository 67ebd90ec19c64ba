-- `doubles::real_raised` is right: e has seven bits or there is no real, and the significand times at most 8 is below 2 ^ 56. Assumes nothing.
use mathlib.Core.Path.{ap, ◌∙◌}
use native.Mathlib.Omega.{arith}
use Rattle.std.specs.Prelude.{Some}
use Rattle.doubles.proofs.Made.{up_lt, raised-none, raised-some}
use Rattle.doubles.proofs.real_raised.Goals as goal

pub returns-then-e-ge128 : goal.returns-then-e-ge128
returns-then-e-ge128 c = raised-none c.args.bits c.args.k c.if-e-ge128.true

pub real_with-requires : goal.real_with-requires
real_with-requires c = let h = up_lt c.args.bits c.args.k in (c.if-e-ge128.false, omega arith)

pub returns : goal.returns
returns c = let a = c.args in ap Some c.real_with.ensures ∙ raised-some a.bits a.k c.if-e-ge128.false
