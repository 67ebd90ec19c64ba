-- The dates, the scales, then the name.
use mathlib.Core.Path.{sym, ap, ◌∙◌}
use Rattle.std.proofs.lemmas.Result.{err_from_is_err_and}
use Rattle.cgx_spec.specs.Verdicts.{numbered}
use Rattle.cgx_write_plans.proofs.Dated.{first-some, first-none, library-fault}
use Rattle.cgx_write_plans.proofs.library_fault.Goals as goal

pub returns-in_err-dates_fault : goal.returns-in_err-dates_fault
returns-in_err-dates_fault c = let a = c.args in
    let p = err_from_is_err_and c.from_residual.result c.from_residual.ensures.1 in
    rw (p.1, p.2) (first-some _ _ _ (sym c.dates_fault.ensures ∙ ap numbered c.in_err-dates_fault.was) ∙ library-fault 0 a.munit a.uunit a.created a.modified a.name.now)

pub returns-in_err-scales_fault : goal.returns-in_err-scales_fault
returns-in_err-scales_fault c = let a = c.args in
    let p = err_from_is_err_and c.from_residual-in_err-scales_fault.result c.from_residual-in_err-scales_fault.ensures.1 in
    rw (p.1, p.2)
    (first-some _ _ _ (sym c.scales_fault.ensures ∙ ap numbered c.in_err-scales_fault.was)
    ∙ first-none _ _ (sym c.dates_fault.ensures ∙ ap numbered c.in_ok-dates_fault.was)
    ∙ library-fault 0 a.munit a.uunit a.created a.modified a.name.now)

pub returns : goal.returns
returns c = let a = c.args in
    c.text_fault.ensures
    ∙ first-none _ _ (sym c.scales_fault.ensures ∙ ap numbered c.in_ok-scales_fault.was)
    ∙ first-none _ _ (sym c.dates_fault.ensures ∙ ap numbered c.in_ok-dates_fault.was)
    ∙ library-fault 0 a.munit a.uunit a.created a.modified a.name.now
