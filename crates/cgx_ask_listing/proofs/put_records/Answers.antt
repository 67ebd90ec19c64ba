-- The loop law of `Asking`: the lines stored so far, and the listing of the rest after them, are the whole.
use Rattle.std.specs.Prelude.{Ok, Err}
use mathlib.Core.Path.{ap, ◌∙◌}
use native.Mathlib.Omega.{arith}
use lib.ListN.{length}
use Rattle.cgx_spec.specs.Verdicts.{accepted}
use Rattle.cgx_read_judge.proofs.Asking.{judged-good}
use Rattle.buffers.proofs.Puts.{put-length}
use Rattle.cgx_ask_listing.specs.Listing.{lines_of}
use Rattle.cgx_ask_listing.proofs.Rests.{begun_first, line-room, begun-go, last_fits, begun-stop}
use Rattle.cgx_ask_listing.proofs.put_records.Goals as goal

pub loop-found-init : goal.loop-found-init
loop-found-init c = begun_first c.args.file.now c.args.out.now c.requires.0

pub judge-requires : goal.judge-requires
judge-requires c = c.loop-found.invariant.asked.inside

pub put_last-requires : goal.put_last-requires
put_last-requires c = last_fits c.args.file.now c.loop-found.p c.loop-found.at c.args.out.now c.loop-found.out c.loop-found.to c.loop-found.invariant (let i = c.loop-found.invariant.asked.inside in let w = c.requires.1 in omega arith) c.requires.2 c.judge.ensures accepted (c.in-Ok-None.is ∙ ap Ok c.in-Ok-None.field-0-is)

pub shape_of-out-in-Ok-None : goal.shape_of-out-in-Ok-None
shape_of-out-in-Ok-None c = ap length (begun-stop c.args.file.now c.loop-found.p c.loop-found.at c.args.out.now c.loop-found.out c.loop-found.to c.loop-found.invariant (let i = c.loop-found.invariant.asked.inside in let w = c.requires.1 in omega arith) c.requires.2 c.judge.ensures accepted (c.in-Ok-None.is ∙ ap Ok c.in-Ok-None.field-0-is) c.put_last.ensures).bytes ∙ put-length c.args.out.now 0 (lines_of c.args.file.now)

pub returns-in-Ok-None : goal.returns-in-Ok-None
returns-in-Ok-None c = begun-stop c.args.file.now c.loop-found.p c.loop-found.at c.args.out.now c.loop-found.out c.loop-found.to c.loop-found.invariant (let i = c.loop-found.invariant.asked.inside in let w = c.requires.1 in omega arith) c.requires.2 c.judge.ensures accepted (c.in-Ok-None.is ∙ ap Ok c.in-Ok-None.field-0-is) c.put_last.ensures

pub put_last-requires-in-Err : goal.put_last-requires-in-Err
put_last-requires-in-Err c = last_fits c.args.file.now c.loop-found.p c.loop-found.at c.args.out.now c.loop-found.out c.loop-found.to c.loop-found.invariant (let i = c.loop-found.invariant.asked.inside in let w = c.requires.1 in omega arith) c.requires.2 c.judge.ensures (Err c.in-Err.refusal) c.in-Err.is

pub shape_of-out-in-Err : goal.shape_of-out-in-Err
shape_of-out-in-Err c = ap length (begun-stop c.args.file.now c.loop-found.p c.loop-found.at c.args.out.now c.loop-found.out c.loop-found.to c.loop-found.invariant (let i = c.loop-found.invariant.asked.inside in let w = c.requires.1 in omega arith) c.requires.2 c.judge.ensures (Err c.in-Err.refusal) c.in-Err.is c.put_last-in-Err.ensures).bytes ∙ put-length c.args.out.now 0 (lines_of c.args.file.now)

pub returns-in-Err : goal.returns-in-Err
returns-in-Err c = begun-stop c.args.file.now c.loop-found.p c.loop-found.at c.args.out.now c.loop-found.out c.loop-found.to c.loop-found.invariant (let i = c.loop-found.invariant.asked.inside in let w = c.requires.1 in omega arith) c.requires.2 c.judge.ensures (Err c.in-Err.refusal) c.in-Err.is c.put_last-in-Err.ensures

pub put_record-to-requires : goal.put_record-to-requires
put_record-to-requires c = line-room c.args.file.now c.loop-found.p c.loop-found.at c.args.out.now c.loop-found.out c.loop-found.to c.loop-found.invariant (let i = c.loop-found.invariant.asked.inside in let w = c.requires.1 in omega arith) c.requires.2 c.in-Ok-Some.found.header.kind

pub overflow_add-at : goal.overflow_add-at
overflow_add-at c = let g = judged-good c.args.file.now c.loop-found.p c.loop-found.at c.judge.ensures (c.in-Ok-Some.is ∙ ap Ok c.in-Ok-Some.field-0-is) in let a = g.held.least in let i = g.held.inside in omega arith

pub loop-found-smaller : goal.loop-found-smaller
loop-found-smaller c = let g = judged-good c.args.file.now c.loop-found.p c.loop-found.at c.judge.ensures (c.in-Ok-Some.is ∙ ap Ok c.in-Ok-Some.field-0-is) in let a = g.held.least in let i = g.held.inside in omega arith

pub loop-found-preserved : goal.loop-found-preserved
loop-found-preserved c = begun-go c.args.file.now c.loop-found.p c.loop-found.at c.args.out.now c.loop-found.out c.loop-found.to c.loop-found.invariant (let i = c.loop-found.invariant.asked.inside in let w = c.requires.1 in omega arith) c.requires.2 c.judge.ensures (c.in-Ok-Some.is ∙ ap Ok c.in-Ok-Some.field-0-is) c.put_record-to.ensures
