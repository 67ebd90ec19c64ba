-- A LAYER without a name breaks no rule from 7 to 12 and has 8 bytes.
use Rattle.std.specs.Prelude.{None}
use Rattle.cgx_write_given.specs.Given.{given_layer}
use Rattle.cgx_write_given.proofs.Sizes.{layer-size}
use Rattle.cgx_write_plans.proofs.Faults.{layer-fault}
use Rattle.cgx_write_plans.proofs.Order.{plan-is}
use Rattle.cgx_write_plans.proofs.plan_layer.Goals as goal

pub returns : goal.returns
unfolding given_layer
returns c = let a = c.args in
    plan-is a.room a.w (given_layer a.number a.datatype None) c.conclude.result _ 8 c.conclude.ensures (layer-fault a.number a.datatype) (layer-size a.number a.datatype)
