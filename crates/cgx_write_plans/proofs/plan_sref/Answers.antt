-- The rules of an SREF and its size.
use mathlib.Core.Path.{◌∙◌}
use Rattle.cgx_write_given.specs.Given.{given_sref}
use Rattle.cgx_write_given.proofs.Srefs.{sref-size}
use Rattle.cgx_write_plans.proofs.Srefs.{sref-fault}
use Rattle.cgx_write_plans.proofs.Order.{plan-is}
use Rattle.cgx_write_plans.proofs.plan_sref.Goals as goal

pub returns : goal.returns
unfolding given_sref
returns c = let a = c.args in
    plan-is a.room a.w (given_sref a.flags a.at a.angle.now a.magnif.now a.grid a.name.now) c.conclude.result _ c.sref_size.result c.conclude.ensures (c.sref_fault.ensures ∙ sref-fault a.at a.angle.now a.magnif.now a.grid a.name.now a.flags) (c.sref_size.ensures ∙ sref-size a.flags a.at a.angle.now a.magnif.now a.grid a.name.now)
