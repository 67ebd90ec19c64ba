-- The rule of the name and the size of the record.
use Rattle.std.specs.Prelude.{Some}
use mathlib.Core.Path.{◌∙◌}
use Rattle.cgx_write_given.specs.Given.{given_layer}
use Rattle.cgx_write_given.proofs.Sizes.{named-size}
use Rattle.cgx_write_plans.proofs.Faults.{named-fault}
use Rattle.cgx_write_plans.proofs.Order.{plan-is}
use Rattle.cgx_write_plans.proofs.plan_named.Goals as goal

pub returns : goal.returns
unfolding given_layer
returns c = let a = c.args in
    plan-is a.room a.w (given_layer a.number a.datatype (Some a.name.now)) c.conclude.result _ c.named_size.result c.conclude.ensures (c.text_fault.ensures ∙ named-fault a.number a.datatype a.name.now) (c.named_size.ensures ∙ named-size a.number a.datatype a.name.now)
