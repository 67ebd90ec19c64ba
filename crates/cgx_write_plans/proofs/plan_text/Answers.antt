-- The rule of the label and the size of the record.
use mathlib.Core.Path.{◌∙◌}
use Rattle.cgx_write_given.specs.Given.{given_text}
use Rattle.cgx_write_given.proofs.Sizes.{label-size}
use Rattle.cgx_write_plans.proofs.Faults.{label-fault}
use Rattle.cgx_write_plans.proofs.Order.{plan-is}
use Rattle.cgx_write_plans.proofs.plan_text.Goals as goal

pub returns : goal.returns
unfolding given_text
returns c = let a = c.args in
    plan-is a.room a.w (given_text a.flags a.at a.width a.label.now) c.conclude.result _ c.text_size.result c.conclude.ensures (c.text_fault.ensures ∙ label-fault a.flags a.at a.width a.label.now) (c.text_size.ensures ∙ label-size a.flags a.at a.width a.label.now)
