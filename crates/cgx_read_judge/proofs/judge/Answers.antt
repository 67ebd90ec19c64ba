-- The cases of a step: after ENDLIB, a bad header, a broken rule, a good record (`Judgements`).
use mathlib.Core.Path.{sym, ap, ◌∙◌}
use native.Mathlib.Omega.{arith}
use Rattle.std.proofs.lemmas.Result.{err_from_is_err_and}
use Rattle.cgx_read_judge.proofs.Judgements.{judge-done, judge-more, judge-bad, judge-broken, judge-go}
use Rattle.cgx_spec.specs.Verdicts.{numbered}
use Rattle.cgx_read_judge.proofs.judge.Goals as goal

pub returns-then-at-file : goal.returns-then-at-file
returns-then-at-file c = judge-done c.args.file.now c.args.p c.args.at (sym c.has_ended.ensures ∙ c.if-has_ended.true) c.if-at-file.true

pub returns-then-has_ended : goal.returns-then-has_ended
returns-then-has_ended c = rw c.at.ensures (judge-more c.args.file.now c.args.p c.args.at (sym c.has_ended.ensures ∙ c.if-has_ended.true) (omega arith) c.if-at-file.false)

pub returns-in_err-header : goal.returns-in_err-header
returns-in_err-header c = let p = err_from_is_err_and c.from_residual.result c.from_residual.ensures.1 in
    rw (p.1, p.2) (judge-bad c.args.file.now c.args.p c.args.at (sym c.has_ended.ensures ∙ c.if-has_ended.false) c.header_at.result c.header_at.ensures c.in_err-header.was)

pub returns-in-Err : goal.returns-in-Err
returns-in-Err c = rw c.at-in-Err.ensures (judge-broken c.args.file.now c.args.p c.args.at (sym c.has_ended.ensures ∙ c.if-has_ended.false) c.header_at.result c.header_at.ensures _ c.in_ok-header.was c.phase_after-phase.ensures c.is_allowed.ensures c.record_fault.ensures (ap numbered c.in-Err.is))

pub returns : goal.returns
returns c = judge-go c.args.file.now c.args.p c.args.at (sym c.has_ended.ensures ∙ c.if-has_ended.false) c.header_at.result c.header_at.ensures _ c.in_ok-header.was c.phase_after-phase.ensures c.is_allowed.ensures c.record_fault.ensures (ap numbered c.in_default.is)
