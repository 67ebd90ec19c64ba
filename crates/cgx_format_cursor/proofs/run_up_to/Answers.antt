-- By the count.
use mathlib.Core.Path.{refl}
use Rattle.cgx_format_cursor.specs.Cursors.{run_in}
use Rattle.cgx_format_cursor.proofs.Laws.{run_up}
use Rattle.cgx_format_cursor.proofs.run_up_to.Goals as goal

pub returns-then-count-eq0 : goal.returns-then-count-eq0
unfolding run_in
returns-then-count-eq0 c = rw c.if-count-eq0.true refl

pub returns : goal.returns
unfolding run_in
returns c = let a = c.args in run_up a.at a.first a.count c.if-count-eq0.false
