-- By what the step comes to (`Steps`).
use Rattle.std.specs.Prelude.{Ok}
use mathlib.Core.Path.{ap, ◌∙◌}
use Rattle.cgx_spec.specs.Verdicts.{numbered}
use Rattle.cgx_read_walk.proofs.Answers.{sought-known}
use Rattle.cgx_c_step.proofs.Steps.{lent-refused, lent-done, lent-broken, lent-record}
use Rattle.cgx_c_step.proofs.step_over.Goals as goal

pub record_over-requires : goal.record_over-requires
record_over-requires c = (sought-known c.args.file.now c.cursor_of-c.result c.seek.ensures (c.in-Ok-Some.is ∙ ap Ok c.in-Ok-Some.field-0-is)).0

pub returns-in-Ok-None : goal.returns-in-Ok-None
returns-in-Ok-None c = let a = c.args in lent-done a.file.now a.place.now a.view.now a.at.now c.cursor_of-c.ensures c.seek.ensures (c.in-Ok-None.is ∙ ap Ok c.in-Ok-None.field-0-is)

pub returns-in-Err : goal.returns-in-Err
returns-in-Err c = let a = c.args in lent-refused a.file.now a.place.now a.view.now a.at.now c.cursor_of-c.ensures c.seek.ensures c.in-Err.is c.put_offset.ensures

pub returns-in-Ok : goal.returns-in-Ok
returns-in-Ok c = let a = c.args in lent-record a.file.now a.place.now a.view.now a.at.now c.cursor_of-c.ensures c.seek.ensures (c.in-Ok-Some.is ∙ ap Ok c.in-Ok-Some.field-0-is) c.record_over.ensures (ap numbered c.in-Ok.is)

pub returns-in-Err-record_over : goal.returns-in-Err-record_over
returns-in-Err-record_over c = let a = c.args in rw c.number.ensures (lent-broken a.file.now a.place.now a.view.now a.at.now c.cursor_of-c.ensures c.seek.ensures (c.in-Ok-Some.is ∙ ap Ok c.in-Ok-Some.field-0-is) c.record_over.ensures (ap numbered c.in-Err-record_over.is))
