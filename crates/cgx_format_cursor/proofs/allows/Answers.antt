-- The table is that of `needs_of` (`Laws`).
use mathlib.Core.Path.{◌∙◌}
use Rattle.cgx_format_cursor.proofs.Laws.{met-is}
use Rattle.cgx_format_cursor.proofs.allows.Goals as goal

pub returns : goal.returns
returns c = let a = c.args in c.needs_met.ensures ∙ met-is a.s a.k
