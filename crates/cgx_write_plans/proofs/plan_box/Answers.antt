-- The rules of a BOX and its size.
use mathlib.Core.Path.{◌∙◌}
use Rattle.cgx_write_given.specs.Given.{given_box}
use Rattle.cgx_write_given.proofs.Sizes.{box-size}
use Rattle.cgx_write_plans.proofs.Order.{plan-is}
use Rattle.cgx_write_plans.proofs.plan_box.Goals as goal

pub returns : goal.returns
unfolding given_box
returns c = let a = c.args in
    plan-is a.room a.w (given_box a.sides.now) c.conclude.result _ c.box_size.result c.conclude.ensures c.box_fault.ensures (c.box_size.ensures ∙ box-size a.sides.now)
