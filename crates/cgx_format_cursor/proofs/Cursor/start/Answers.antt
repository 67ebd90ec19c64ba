-- The state of the start, after four bytes.
use Rattle.cgx_spec.specs.Walking.{first_place}
use Rattle.cgx_format_cursor.specs.declared.State.{State}
use Rattle.cgx_format_cursor.specs.declared.Cursor.{Cursor}
use Rattle.cgx_format_cursor.specs.Cursors.{cursor_of}
use mathlib.Core.Path.{ap}
use Rattle.cgx_format_cursor.proofs.Cursor.start.Goals as goal

pub returns : goal.returns
unfolding cursor_of first_place
returns c = ap {A = State} {B = Cursor} (λ (s : State). record { at = 4; state = s }) c.start.ensures
