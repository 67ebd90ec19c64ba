-- What the call answers, as C is told it.
use mathlib.Core.Path.{ap, ◌∙◌}
use Rattle.cgx_c_answers.specs.Told.{normal_told}
use Rattle.cgx_c.proofs.reading.cgx_normal_form.Goals as goal
use Rattle.cgx_spec.specs.declared.Refusal.{Refusal}
use Rattle.std.specs.Prelude.{Result}
use Prim.Native.Nat.{ℕ}

pub returns : goal.returns
returns c = let a = c.args in let n = c.normal_form.ensures in record { at_after = c.tell_normal.ensures ∙ ap (λ (v : Result ℕ Refusal). normal_told v a.length.now a.at.now) n.value; output = n.output }
