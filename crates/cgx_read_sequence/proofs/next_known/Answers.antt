-- The invariant: only unknown records were passed (`Rests`).
use native.Mathlib.Omega.{arith}
use Rattle.cgx_read_sequence.proofs.Rests.{enough, passes_none, passes-all, here, passes-unknown, passes-known}
use Rattle.cgx_read_sequence.proofs.next_known.Goals as goal

pub loop-at-init : goal.loop-at-init
loop-at-init c = (omega arith, passes_none c.args.file.now c.args.from)

pub header_of-h-requires : goal.header_of-h-requires
header_of-h-requires c = let p = c.loop-at.invariant.1 c.requires.records c.requires.rest in enough c.args.file.now c.loop-at.at p.more p.rest c.loop-at-test.true

pub returns-in-Some : goal.returns-in-Some
returns-in-Some c = passes-known c.args.file.now c.args.from c.loop-at.at c.loop-at.invariant.0 c.loop-at.invariant.1 c.loop-at-test.true c.header_of-h.ensures.0 c.in-Some.is

pub overflow_add-at : goal.overflow_add-at
overflow_add-at c = let h = here c.args.file.now c.args.from c.loop-at.at c.loop-at.invariant.0 c.loop-at.invariant.1 c.loop-at-test.true c.header_of-h.ensures.0 c.requires.records c.requires.rest in let a = h.least in let i = h.inside in omega arith

pub loop-at-smaller : goal.loop-at-smaller
loop-at-smaller c = let h = here c.args.file.now c.args.from c.loop-at.at c.loop-at.invariant.0 c.loop-at.invariant.1 c.loop-at-test.true c.header_of-h.ensures.0 c.requires.records c.requires.rest in let a = h.least in let i = h.inside in omega arith

pub loop-at-preserved : goal.loop-at-preserved
loop-at-preserved c = let h = here c.args.file.now c.args.from c.loop-at.at c.loop-at.invariant.0 c.loop-at.invariant.1 c.loop-at-test.true c.header_of-h.ensures.0 c.requires.records c.requires.rest in let a = h.least in (omega arith, passes-unknown c.args.file.now c.args.from c.loop-at.at c.loop-at.invariant.0 c.loop-at.invariant.1 c.loop-at-test.true c.header_of-h.ensures.0 c.in_default.is)

pub returns : goal.returns
returns c = passes-all c.args.file.now c.args.from c.loop-at.at c.loop-at.invariant.1 c.loop-at-test.false
