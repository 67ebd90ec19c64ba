-- `reals::normal_bytes` is right by the contracts of the three functions that it calls. Assumes nothing.
use mathlib.Core.Path.{ap, ◌∙◌}
use Rattle.cgx_spec.specs.Numbers.{digits}
use Rattle.cgx_spec.specs.Reals.{normal, normal_real}
use Rattle.reals.proofs.normal_bytes.Goals as goal

pub returns : goal.returns
unfolding normal_real
returns c = c.word_bytes.ensures ∙ ap (digits 8) (c.normal_real.ensures ∙ ap normal c.word_of.ensures)
