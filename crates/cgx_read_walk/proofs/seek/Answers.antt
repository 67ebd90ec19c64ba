-- The invariant: the step comes to what the walk from here on comes to, with the state that the place has.
use mathlib.Core.Path.{sym, ◌∙◌}
use native.Mathlib.Omega.{arith}
use Rattle.std.proofs.lemmas.Result.{err_from_is_err_and}
use borrow.Author.Tests.{not-true, not-false}
use lib.ListN.{length}
use Rattle.cgx_format_headers.proofs.Heads.{header-in}
use Rattle.cgx_format_cursor.proofs.Sound.{not-forged}
use Rattle.cgx_read_walk.proofs.Answers.{step-forged, step-on, seek-done, seek-more, seek-bad, seek-known, seek-early, seek-on}
use Rattle.cgx_read_walk.proofs.seek.Goals as goal

pub returns-then-is_forged : goal.returns-then-is_forged
returns-then-is_forged c = rw c.nowhere.ensures (step-forged c.args.file.now c.args.place c.is_forged.ensures c.if-is_forged.true)

pub returns-then-at-file : goal.returns-then-at-file
returns-then-at-file c = let a = c.args in seek-done a.file.now a.place a.place.at (step-on a.file.now a.place c.is_forged.ensures c.if-is_forged.false) c.if-s.true c.if-at-file.true

pub returns-then-s : goal.returns-then-s
returns-then-s c = rw (c.from.ensures, c.at.ensures) (let a = c.args in let h = not-forged (length a.file.now) a.place (sym c.is_forged.ensures ∙ c.if-is_forged.false) in seek-more a.file.now a.place a.place.at (step-on a.file.now a.place c.is_forged.ensures c.if-is_forged.false) c.if-s.true h.high c.if-at-file.false)

pub loop-h-init : goal.loop-h-init
loop-h-init c = let a = c.args in let h = not-forged (length a.file.now) a.place (sym c.is_forged.ensures ∙ c.if-is_forged.false) in let l = h.low in (h.high, omega arith, h.few, step-on a.file.now a.place c.is_forged.ensures c.if-is_forged.false)

pub returns-in_err-h : goal.returns-in_err-h
returns-in_err-h c = let p = err_from_is_err_and c.from_residual.result c.from_residual.ensures.1 in rw (p.1, p.2) (seek-bad c.args.file.now c.args.place c.loop-h.at c.loop-h.invariant.3 c.if-s.false c.header_at.ensures c.in_err-h.was)

pub returns-in-Some : goal.returns-in-Some
returns-in-Some c = seek-known c.args.file.now c.args.place c.loop-h.at c.loop-h.invariant.3 c.if-s.false c.header_at.ensures c.in_ok-h.was c.in-Some.is c.loop-h.invariant.1 c.loop-h.invariant.2

pub returns-then-not-s : goal.returns-then-not-s
returns-then-not-s c = rw (c.from-then-not-s.ensures, c.at-then-not-s.ensures) (seek-early c.args.file.now c.args.place c.loop-h.at c.loop-h.invariant.3 c.if-s.false c.header_at.ensures c.in_ok-h.was c.in_default.is (not-true c.args.place.state.library c.if-not-s.true))

pub overflow_add-at : goal.overflow_add-at
overflow_add-at c = let h = (header-in c.args.file.now c.loop-h.at c.header_at.ensures c.in_ok-h.was).held in let l = h.least in let i = h.inside in omega arith

pub loop-h-smaller : goal.loop-h-smaller
loop-h-smaller c = let h = (header-in c.args.file.now c.loop-h.at c.header_at.ensures c.in_ok-h.was).held in let l = h.least in let i = h.inside in omega arith

pub loop-h-preserved : goal.loop-h-preserved
loop-h-preserved c = let h = (header-in c.args.file.now c.loop-h.at c.header_at.ensures c.in_ok-h.was).held in let l = h.least in let i = h.inside in (omega arith, omega arith, omega arith, seek-on c.args.file.now c.args.place c.loop-h.at c.loop-h.invariant.3 c.if-s.false c.header_at.ensures c.in_ok-h.was c.in_default.is (not-false c.args.place.state.library c.if-not-s.false))
