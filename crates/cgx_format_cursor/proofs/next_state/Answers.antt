-- The table is that of `next` (`Laws`).
use mathlib.Core.Path.{◌∙◌}
use Rattle.cgx_format_cursor.proofs.Laws.{after_is}
use Rattle.cgx_format_cursor.proofs.next_state.Goals as goal

pub returns : goal.returns
returns c = let a = c.args in c.state_after.ensures ∙ after_is a.s a.at a.k
