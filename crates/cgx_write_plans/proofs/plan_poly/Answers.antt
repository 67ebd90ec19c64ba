-- The rules of a POLY and its size.
use mathlib.Core.Path.{◌∙◌}
use Rattle.cgx_write_given.specs.Given.{given_poly}
use Rattle.cgx_write_given.proofs.Sizes.{poly-size}
use Rattle.cgx_write_plans.proofs.Order.{plan-is}
use Rattle.cgx_write_plans.proofs.plan_poly.Goals as goal

pub returns : goal.returns
unfolding given_poly
returns c = let a = c.args in
    plan-is a.room a.w (given_poly a.points.now) c.conclude.result _ c.poly_size.result c.conclude.ensures c.poly_fault.ensures (c.poly_size.ensures ∙ poly-size a.points.now)
