-- The rules of the dates and the name, and the size of the record.
use mathlib.Core.Path.{◌∙◌}
use Rattle.cgx_write_given.specs.Given.{given_struct}
use Rattle.cgx_write_given.proofs.Widths.{struct-size}
use Rattle.cgx_write_plans.proofs.Order.{plan-is}
use Rattle.cgx_write_plans.proofs.plan_struct.Goals as goal

pub returns : goal.returns
unfolding given_struct
returns c = let a = c.args in
    plan-is a.room a.w (given_struct a.created a.modified a.name.now) c.conclude.result _ c.struct_size.result c.conclude.ensures c.struct_fault-fault.ensures (c.struct_size.ensures ∙ struct-size a.created a.modified a.name.now)
