-- What the call answers, as C is told it.
use mathlib.Core.Path.{ap, ◌∙◌}
use Rattle.cgx_c_answers.specs.Told.{start_told}
use Rattle.cgx_c.proofs.reading.cgx_start.Goals as goal
use Rattle.cgx_spec.specs.declared.FileRefusal.{FileRefusal}
use Rattle.cgx_format_cursor.specs.declared.Cursor.{Cursor}
use Rattle.std.specs.Prelude.{Result}

pub returns : goal.returns
returns c = let a = c.args in c.tell_start.ensures ∙ ap (λ (v : Result Cursor FileRefusal). start_told v a.place.now a.at.now) c.start.ensures
