-- The invariant: the cell asked for is the one with `left` more before it among the rest (`Cells`).
use mathlib.Core.Path.{ap}
use native.Mathlib.Omega.{arith}
use Rattle.cgx_read_sequence.proofs.Rests.{found_first, found-end}
use Rattle.cgx_ask_extent.proofs.Cells.{opens-not, seeks-first, seeks-end, seeks-here, seeks-next, seeks-past}
use Rattle.cgx_ask_extent.proofs.cell_start.Goals as goal

pub loop-r-init : goal.loop-r-init
loop-r-init c = seeks-first c.args.file.now c.args.k (λ i. (c.type_inv.file i).fits) c.requires

pub next_known-requires : goal.next_known-requires
next_known-requires c = record { records = c.loop-r.invariant.records; rest = c.loop-r.invariant.rest }

pub returns : goal.returns
returns c = seeks-end c.args.file.now c.args.k c.loop-r.at c.loop-r.left c.loop-r.invariant (found-end c.args.file.now c.loop-r.at c.next_known.ensures c.in_default.is c.loop-r.invariant.records c.loop-r.invariant.rest).sequence

pub overflow_add-at : goal.overflow_add-at
overflow_add-at c = let n = (found_first c.args.file.now c.loop-r.at c.next_known.ensures c.in-Some.is c.loop-r.invariant.records c.loop-r.invariant.rest) in let h = n.held in let a = h.least in let i = h.inside in let l = n.later in omega arith

pub returns-then-left-eq0 : goal.returns-then-left-eq0
returns-then-left-eq0 c = seeks-here c.args.file.now c.args.k c.loop-r.at c.loop-r.left c.loop-r.invariant c.in-Some.r (found_first c.args.file.now c.loop-r.at c.next_known.ensures c.in-Some.is c.loop-r.invariant.records c.loop-r.invariant.rest) c.extent_role.ensures c.in-Opens.is c.if-left-eq0.true

pub loop-r-smaller-in-Opens : goal.loop-r-smaller-in-Opens
loop-r-smaller-in-Opens c = let n = (found_first c.args.file.now c.loop-r.at c.next_known.ensures c.in-Some.is c.loop-r.invariant.records c.loop-r.invariant.rest) in let h = n.held in let a = h.least in let i = h.inside in let l = n.later in omega arith

pub loop-r-preserved-in-Opens : goal.loop-r-preserved-in-Opens
loop-r-preserved-in-Opens c = seeks-next c.args.file.now c.args.k c.loop-r.at c.loop-r.left c.loop-r.invariant c.in-Some.r (found_first c.args.file.now c.loop-r.at c.next_known.ensures c.in-Some.is c.loop-r.invariant.records c.loop-r.invariant.rest) c.extent_role.ensures c.in-Opens.is c.if-left-eq0.false

pub loop-r-smaller : goal.loop-r-smaller
loop-r-smaller c = let n = (found_first c.args.file.now c.loop-r.at c.next_known.ensures c.in-Some.is c.loop-r.invariant.records c.loop-r.invariant.rest) in let h = n.held in let a = h.least in let i = h.inside in let l = n.later in omega arith

pub loop-r-preserved : goal.loop-r-preserved
loop-r-preserved c = seeks-past c.args.file.now c.args.k c.loop-r.at c.loop-r.left c.loop-r.invariant c.in-Some.r (found_first c.args.file.now c.loop-r.at c.next_known.ensures c.in-Some.is c.loop-r.invariant.records c.loop-r.invariant.rest) c.extent_role.ensures (opens-not _ c.in_default-extent_role.not-Opens)
