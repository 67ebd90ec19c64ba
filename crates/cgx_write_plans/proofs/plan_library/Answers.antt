-- The rules of the dates, the scales and the name, in this order, and the size of the record.
use mathlib.Core.Path.{◌∙◌}
use Rattle.cgx_write_plans.proofs.Dated.{any-version}
use Rattle.cgx_write_given.specs.Given.{given_library}
use Rattle.cgx_write_given.proofs.Widths.{library-size}
use Rattle.cgx_write_plans.proofs.Order.{plan-is}
use Rattle.cgx_write_plans.proofs.plan_library.Goals as goal

pub returns : goal.returns
unfolding given_library
returns c = let a = c.args in
    let f = c.library_fault-fault.ensures ∙ any-version a.version a.munit a.uunit a.created a.modified a.name.now in
    plan-is a.room a.w (given_library a.version a.munit a.uunit a.created a.modified a.name.now) c.conclude.result _ c.library_size.result c.conclude.ensures f (c.library_size.ensures ∙ library-size a.version a.munit a.uunit a.created a.modified a.name.now)
