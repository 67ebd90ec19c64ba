-- The loop law of `Asking`, with the question of `Turns`.
use Rattle.std.specs.Prelude.{Ok, Err}
use mathlib.Core.Path.{sym, ap, ◌∙◌}
use native.Mathlib.Omega.{arith}
use Rattle.std.proofs.lemmas.Result.{err_from_is_err_and}
use Rattle.cgx_format_headers.proofs.Openings.{opening-long, opening-good}
use Rattle.cgx_read_steps.proofs.Walks.{opening-refused}
use Rattle.cgx_read_judge.proofs.Asking.{asked-start, asked-stop, asked-go, judged-good}
use Rattle.cgx_read_check.specs.Measure.{measure_of}
use Rattle.cgx_read_check.proofs.Runs.{taken-le}
use Rattle.cgx_read_check.proofs.Turns.{ask, ask-all, ask-stop, ask-go, measured-refused}
use Rattle.cgx_spec.specs.Verdicts.{accepted}
use Rattle.cgx_read_check.proofs.measure.Goals as goal

pub returns-in_err-check_opening : goal.returns-in_err-check_opening
returns-in_err-check_opening c = let p = err_from_is_err_and c.from_residual.result c.from_residual.ensures.1 in
    rw (p.1, p.2) (measured-refused c.args.file.now (opening-refused c.args.file.now (sym c.in_err-check_opening.was ∙ c.check_opening.ensures)))

pub loop-found-init : goal.loop-found-init
loop-found-init c = let z = opening-good c.args.file.now (sym c.in_ok-check_opening.was ∙ c.check_opening.ensures) in (asked-start ask (measure_of c.args.file.now) c.args.file.now 4 z (ask-all c.args.file.now (opening-long c.args.file.now z)), omega arith)

pub returns-in_err-found : goal.returns-in_err-found
returns-in_err-found c = let p = err_from_is_err_and c.from_residual-in_err-found.result c.from_residual-in_err-found.ensures.1 in
    rw (p.1, p.2) (sym (asked-stop ask (measure_of c.args.file.now) c.args.file.now c.loop-found.p c.loop-found.at c.loop-found.length c.loop-found.invariant.0 c.judge.ensures (Err c.in_err-found.field-0.0) c.in_err-found.was ∙ ask-stop c.loop-found.length (Err c.in_err-found.field-0.0)))

pub overflow_add-length : goal.overflow_add-length
overflow_add-length c = let g = judged-good c.args.file.now c.loop-found.p c.loop-found.at c.judge.ensures (c.in_ok-found.was ∙ ap Ok c.in-Some.is) in let i = g.held.inside in let w = taken-le c.in-Some.found.header.kind c.in-Some.found.header.size c.taken_by-length.ensures in let s = c.loop-found.invariant.1 in omega arith

pub overflow_add-at : goal.overflow_add-at
overflow_add-at c = let g = judged-good c.args.file.now c.loop-found.p c.loop-found.at c.judge.ensures (c.in_ok-found.was ∙ ap Ok c.in-Some.is) in let i = g.held.inside in let a = g.held.least in omega arith

pub loop-found-smaller : goal.loop-found-smaller
loop-found-smaller c = let g = judged-good c.args.file.now c.loop-found.p c.loop-found.at c.judge.ensures (c.in_ok-found.was ∙ ap Ok c.in-Some.is) in let i = g.held.inside in let a = g.held.least in omega arith

pub loop-found-preserved : goal.loop-found-preserved
loop-found-preserved c = let q = c.in_ok-found.was ∙ ap Ok c.in-Some.is in let g = judged-good c.args.file.now c.loop-found.p c.loop-found.at c.judge.ensures q in let w = taken-le c.in-Some.found.header.kind c.in-Some.found.header.size c.taken_by-length.ensures in let s = c.loop-found.invariant.1 in let i = g.held.inside in (asked-go ask (measure_of c.args.file.now) c.args.file.now c.loop-found.p c.loop-found.at c.loop-found.length c.loop-found.invariant.0 c.judge.ensures q _ (λ d w k. ask-go c.args.file.now (λ i. (c.type_inv.file i).fits) d c.loop-found.at g.held g.read k c.loop-found.length _ w c.taken_by-length.ensures), omega arith)

pub returns : goal.returns
returns c = sym (asked-stop ask (measure_of c.args.file.now) c.args.file.now c.loop-found.p c.loop-found.at c.loop-found.length c.loop-found.invariant.0 c.judge.ensures accepted (c.in_ok-found.was ∙ ap Ok c.in_default.is) ∙ ask-stop c.loop-found.length accepted)
