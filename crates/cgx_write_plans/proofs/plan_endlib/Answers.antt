-- ENDLIB breaks no rule from 7 to 12 and has 4 bytes.
use Rattle.cgx_write_given.specs.Given.{given_endlib}
use Rattle.cgx_write_given.proofs.Sizes.{endlib-size}
use Rattle.cgx_write_plans.proofs.Faults.{endlib-fault}
use Rattle.cgx_write_plans.proofs.Order.{plan-is}
use Rattle.cgx_write_plans.proofs.plan_endlib.Goals as goal

pub returns : goal.returns
unfolding given_endlib
returns c = let a = c.args in
    plan-is a.room a.w given_endlib c.conclude.result _ 4 c.conclude.ensures endlib-fault endlib-size
