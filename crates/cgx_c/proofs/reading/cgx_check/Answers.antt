-- What the call answers, as C is told it.
use mathlib.Core.Path.{ap, ◌∙◌}
use Rattle.cgx_spec.specs.Verdicts.{Verdict}
use Rattle.cgx_c_answers.specs.Told.{verdict_told}
use Rattle.cgx_c.proofs.reading.cgx_check.Goals as goal

pub returns : goal.returns
returns c = let a = c.args in c.tell_verdict.ensures ∙ ap (λ (v : Verdict). verdict_told v a.at.now) c.check.ensures.value
