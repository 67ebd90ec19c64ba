-- The first check that fails, if any, decides what is said.
use mathlib.Core.Path.{sym, ap, ◌∙◌}
use native.Mathlib.Omega.{arith}
use Rattle.cgx_spec.specs.Verdicts.{numbered}
use Rattle.cgx_write_plans.specs.Plans.{concluded}
use Rattle.cgx_write_plans.proofs.Order.{says-no, says-yes, checked-fits}
use Rattle.cgx_write_plans.proofs.conclude.Goals as goal

pub returns-in-Err : goal.returns-in-Err
unfolding concluded
returns-in-Err c = says-no c.args.w c.args.k c.args.size _ c.refused.result _ (sym (ap numbered c.in-Err.is) ∙ c.first_check.ensures) c.refused.ensures

pub moved-requires : goal.moved-requires
moved-requires c = let a = c.args in
    let h = checked-fits a.room a.w a.k (numbered a.fault) a.size (sym (ap numbered c.in_default.is) ∙ c.first_check.ensures) in
    let s = h.sound in
    (omega (arith, s.low), omega (arith, h.room), omega (arith, s.few, s.even))

pub returns : goal.returns
unfolding concluded
returns c = says-yes c.args.w c.args.k c.args.size c.moved.result _ (sym (ap numbered c.in_default.is) ∙ c.first_check.ensures) c.moved.ensures
