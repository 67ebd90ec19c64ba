-- The rules, and then the view and the place after the record.
use mathlib.Core.Path.{sym, ap, ◌∙◌}
use Rattle.cgx_spec.specs.Verdicts.{numbered}
use Rattle.cgx_read_walk.proofs.Answers.{met, judged-kept, broken-made, moved, known-made}
use Rattle.cgx_read_walk.proofs.known.Goals as goal

pub returns-in-Err : goal.returns-in-Err
returns-in-Err c = rw (c.from.ensures, c.at.ensures) (broken-made c.requires c.allows.ensures c.record_fault.ensures c.args.place (ap numbered c.in-Err.is))

pub view_at-v-requires : goal.view_at-v-requires
view_at-v-requires c = let a = c.args in
    let m = met c.requires c.allows.ensures c.record_fault.ensures (ap numbered c.in_default.is) in
    (m.found, (moved a.place.state a.r.at a.r.kind m.low c.next_state-after.ensures).0)

pub returns : goal.returns
returns c = let a = c.args in
    let r = known-made a.file.now a.place.state a.r.at a.r.size a.r.kind c.view_at-v.result c.next_state-after.result (moved a.place.state a.r.at a.r.kind c.requires.low c.next_state-after.ensures) c.view_at-v.ensures in
    (r.0 ∙ sym (judged-kept c.requires c.allows.ensures c.record_fault.ensures (ap numbered c.in_default.is)), r.1 a.place, r.2)
