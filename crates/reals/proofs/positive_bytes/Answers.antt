-- `reals::positive_bytes` is right by the contracts of the two functions that it calls. Assumes nothing.
use mathlib.Core.Path.{ap, ◌∙◌}
use Rattle.cgx_spec.specs.Reals.{positive, positive_real}
use Rattle.reals.proofs.positive_bytes.Goals as goal

pub returns : goal.returns
unfolding positive_real
returns c = c.real_positive.ensures ∙ ap positive c.word_of.ensures
