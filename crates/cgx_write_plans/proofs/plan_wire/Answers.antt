-- The rules of a WIRE and its size.
use mathlib.Core.Path.{◌∙◌}
use Rattle.cgx_write_given.specs.Given.{given_wire}
use Rattle.cgx_write_given.proofs.Sizes.{wire-size}
use Rattle.cgx_write_plans.proofs.Faults.{wire-fault}
use Rattle.cgx_write_plans.proofs.Order.{plan-is}
use Rattle.cgx_write_plans.proofs.plan_wire.Goals as goal

pub returns : goal.returns
unfolding given_wire
returns c = let a = c.args in
    plan-is a.room a.w (given_wire a.style a.width a.points.now) c.conclude.result _ c.wire_size.result c.conclude.ensures (c.wire_fault.ensures ∙ wire-fault a.style a.width a.points.now) (c.wire_size.ensures ∙ wire-size a.style a.width a.points.now)
