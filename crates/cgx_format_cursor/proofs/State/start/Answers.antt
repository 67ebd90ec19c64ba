-- Member by member.
use mathlib.Core.Path.{refl}
use Rattle.cgx_spec.specs.Order.{start}
use Rattle.cgx_format_cursor.specs.Cursors.{state_of}
use Rattle.cgx_format_cursor.proofs.State.start.Goals as goal

pub returns : goal.returns
unfolding state_of start
returns c = refl
