-- The rule of the value and the size of the record.
use mathlib.Core.Path.{ap, ◌∙◌}
use Rattle.cgx_spec.specs.declared.Kind.{Kind}
use Rattle.cgx_spec.specs.Verdicts.{numbered}
use Rattle.cgx_write_given.specs.Given.{given_owned}
use Rattle.cgx_write_given.proofs.Widths.{owned-size}
use Rattle.cgx_write_plans.specs.Plans.{concluded}
use Rattle.cgx_write_plans.proofs.Dated.{owned-fault}
use Rattle.cgx_write_plans.proofs.Order.{plan-is}
use Rattle.cgx_write_plans.proofs.plan_property.Goals as goal

pub returns : goal.returns
unfolding given_owned
returns c = let a = c.args in
    let f = c.text_fault in
    let s = c.property_size in
    let e = c.conclude.ensures ∙ ap (λ (k : Kind). concluded a.room a.w k (numbered f.result) s.result) c.kind.ensures in
    plan-is a.room a.w (given_owned a.owner a.number a.value.now) c.conclude.result _ s.result e (f.ensures ∙ owned-fault a.number a.value.now a.owner) (s.ensures ∙ owned-size a.owner a.number a.value.now)
