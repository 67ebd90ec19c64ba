-- What the call answers, as C is told it.
use mathlib.Core.Path.{ap, ◌∙◌}
use Rattle.cgx_c_answers.specs.Told.{extent_told}
use Rattle.cgx_c.proofs.reading.cgx_extent.Goals as goal
use Rattle.cgx_spec.specs.declared.Refusal.{Refusal}
use Rattle.cgx_format_kinds.specs.declared.Sides.{Sides}
use Rattle.std.specs.Prelude.{Option}
use Rattle.std.specs.Prelude.{Result}

pub returns : goal.returns
returns c = let a = c.args in c.tell_extent.ensures ∙ ap (λ (v : Result (Option Sides) Refusal). extent_told v a.sides.now a.at.now) c.extent.ensures
