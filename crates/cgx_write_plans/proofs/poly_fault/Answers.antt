-- Each outcome is one law of the rules of a POLY.
use mathlib.Core.Path.{sym, ◌∙◌}
use mathlib.Core.Bool.{true, false}
use Rattle.cgx_write_plans.proofs.Polys.{poly-uneven, poly-few, poly-is}
use Rattle.cgx_write_plans.proofs.poly_fault.Goals as goal

pub returns-then-points-ne0 : goal.returns-then-points-ne0
returns-then-points-ne0 c = poly-uneven c.args.points.now c.if-points-ne0.true

pub returns-then-points : goal.returns-then-points
returns-then-points c = poly-few c.args.points.now c.if-points-ne0.false c.if-points.true

pub returns-then-is_closed : goal.returns-then-is_closed
returns-then-is_closed c = poly-is c.args.points.now true c.if-points-ne0.false c.if-points.false (sym c.is_closed.ensures ∙ c.if-is_closed.true)

pub returns-else-is_closed : goal.returns-else-is_closed
returns-else-is_closed c = poly-is c.args.points.now false c.if-points-ne0.false c.if-points.false (sym c.is_closed.ensures ∙ c.if-is_closed.false)
