-- `cgx_read_lists::point_at` is right: where the index passes, its bytes lie inside the file, and its longs are read one after another. Assumes nothing.
use mathlib.Core.Path.{sym, ◌∙◌}
use mir.Syntax.{w32}
use Rattle.numbers.proofs.Signed.{back}
use Rattle.cgx_read_lists.proofs.ItemsInside.{point-none, point-some}
use Rattle.cgx_read_lists.proofs.point_at.Goals as goal

pub returns-in_err-at : goal.returns-in_err-at
returns-in_err-at c = let s = c.args in rw c.from_residual.ensures (point-none s.f.now s.points s.i (sym c.item_at.ensures.value ∙ c.in_err-at.was))

pub returns : goal.returns
returns c = let s = c.args in point-some s.f.now s.points s.i (sym c.item_at.ensures.value ∙ c.in_ok-at.was) (back w32 c.long_at.type_inv ∙ c.long_at.ensures) (back w32 c.long_at-2.type_inv ∙ c.long_at-2.ensures)
