-- The rules in their order, and then what is stored (`Steps`).
use mathlib.Core.Path.{ap}
use Rattle.std.proofs.lemmas.Result.{err_from_is_err_and}
use Rattle.cgx_spec.specs.Verdicts.{numbered}
use Rattle.cgx_c_step.proofs.Steps.{not-allowed, bad-flags, bad-body, record-lent}
use Rattle.cgx_c_step.proofs.record_over.Goals as goal

pub returns-then-not-allows : goal.returns-then-not-allows
returns-then-not-allows c = let a = c.args in not-allowed a.file.now a.s a.r a.place.now a.view.now c.allows.ensures c.if-not-allows.true

pub returns-then-not-flags_good : goal.returns-then-not-flags_good
returns-then-not-flags_good c = let a = c.args in bad-flags a.file.now a.s a.r c.allows.ensures c.if-not-allows.false c.flags_good.ensures a.place.now a.view.now c.if-not-flags_good.true

pub returns-in_err-fill_fields : goal.returns-in_err-fill_fields
returns-in_err-fill_fields c = let a = c.args in let p = err_from_is_err_and c.from_residual.result c.from_residual.ensures.1 in
    rw (p.1, p.2) (bad-body a.file.now a.s a.r c.allows.ensures c.if-not-allows.false c.flags_good.ensures c.if-not-flags_good.false c.requires c.fill_fields.ensures a.place.now (ap numbered c.in_err-fill_fields.was))

pub returns : goal.returns
returns c = let a = c.args in record-lent a.file.now a.s a.r c.allows.ensures c.if-not-allows.false c.flags_good.ensures c.if-not-flags_good.false c.requires c.fill_fields.ensures (ap numbered c.in_ok-fill_fields.was) c.next_state-after.result c.taken-count.result a.place.now _ _ c.next_state-after.ensures c.taken-count.ensures c.put_head.ensures c.put_cursor.ensures
