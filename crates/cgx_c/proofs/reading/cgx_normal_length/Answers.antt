-- What the call answers, as C is told it.
use mathlib.Core.Path.{ap, ◌∙◌}
use Rattle.cgx_c_answers.specs.Told.{length_told}
use Rattle.cgx_c.proofs.reading.cgx_normal_length.Goals as goal
use Rattle.cgx_spec.specs.declared.FileRefusal.{FileRefusal}
use Rattle.std.specs.Prelude.{Result}
use Prim.Native.Nat.{ℕ}

pub returns : goal.returns
returns c = let a = c.args in c.tell_length.ensures ∙ ap (λ (v : Result ℕ FileRefusal). length_told v a.length.now a.at.now) c.measure.ensures
