-- What the call answers, as C is told it.
use mathlib.Core.Path.{ap, ◌∙◌}
use Prim.Native.Nat.{ℕ}
use Rattle.std.specs.Prelude.{Option}
use Rattle.cgx_c_answers.specs.Told.{real_told}
use Rattle.cgx_c.proofs.reading.cgx_real_from_double.Goals as goal

pub returns : goal.returns
returns c = let a = c.args in c.tell_real.ensures ∙ ap (λ (v : Option ℕ). real_told v a.real.now) c.real_from_bits.ensures
