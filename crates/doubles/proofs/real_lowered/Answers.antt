-- `doubles::real_lowered` is right: shifted down and up again the significand is itself where 2 ^ k divides it. Assumes nothing.
use mathlib.Core.Path.{ap, ◌∙◌}
use Rattle.std.specs.Bool.{then_some}
use Rattle.doubles.proofs.Made.{lowered-far, lowered-is}
use Rattle.doubles.proofs.real_lowered.Goals as goal

pub returns-then-k-gt52 : goal.returns-then-k-gt52
returns-then-k-gt52 c = lowered-far c.args.bits c.args.k c.if-k-gt52.true

pub returns : goal.returns
returns c = let a = c.args in
    c.then_some.ensures ∙ ap (then_some _) c.real_with.ensures ∙ lowered-is a.bits a.k
