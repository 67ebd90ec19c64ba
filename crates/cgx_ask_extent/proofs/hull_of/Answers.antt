-- The invariant: the hull so far, with the points of the rest, is that of the cell (`Cells`).
use native.Mathlib.Omega.{arith}
use Rattle.cgx_read_steps.proofs.Steps.{held-body}
use Rattle.cgx_read_sequence.proofs.Rests.{found_first, found-end}
use Rattle.cgx_ask_extent.proofs.Cells.{from_low, spans-first, spans-end, spans-stop, spans-past, spans-grown}
use Rattle.cgx_ask_extent.proofs.hull_of.Goals as goal

pub loop-r-init : goal.loop-r-init
loop-r-init c = spans-first c.args.file.now c.args.from

pub next_known-requires : goal.next_known-requires
next_known-requires c = let x = (c.loop-r.invariant c.requires.records c.requires.rest) in record { records = x.records; rest = x.rest }

pub returns : goal.returns
returns c = spans-end c.args.file.now c.args.from c.loop-r.at c.loop-r.hull c.loop-r.invariant (λ rs g. (found-end c.args.file.now c.loop-r.at c.next_known.ensures c.in_default.is rs g).sequence)

pub overflow_add-body : goal.overflow_add-body
overflow_add-body c = let x = (c.loop-r.invariant c.requires.records c.requires.rest) in let n = (found_first c.args.file.now c.loop-r.at c.next_known.ensures c.in-Some.is) x.records x.rest in let h = n.held in let a = h.least in let i = h.inside in let l = n.later in omega arith

pub overflow_add-at : goal.overflow_add-at
overflow_add-at c = let x = (c.loop-r.invariant c.requires.records c.requires.rest) in let n = (found_first c.args.file.now c.loop-r.at c.next_known.ensures c.in-Some.is) x.records x.rest in let h = n.held in let a = h.least in let i = h.inside in let l = n.later in omega arith

pub returns-in-Opens : goal.returns-in-Opens
returns-in-Opens c = spans-stop c.args.file.now c.args.from c.loop-r.at c.loop-r.hull c.loop-r.invariant c.in-Some.r (found_first c.args.file.now c.loop-r.at c.next_known.ensures c.in-Some.is) c.extent_role.ensures c.in-Opens.is

pub slice_bounds-grown-count : goal.slice_bounds-grown-count
slice_bounds-grown-count c = let x = (c.loop-r.invariant c.requires.records c.requires.rest) in let n = (found_first c.args.file.now c.loop-r.at c.next_known.ensures c.in-Some.is) x.records x.rest in let h = n.held in let a = h.least in let i = h.inside in let l = n.later in omega arith

pub slice_bounds-grown-start : goal.slice_bounds-grown-start
slice_bounds-grown-start c = let x = (c.loop-r.invariant c.requires.records c.requires.rest) in let n = (found_first c.args.file.now c.loop-r.at c.next_known.ensures c.in-Some.is) x.records x.rest in let h = n.held in let a = h.least in let i = h.inside in let l = n.later in omega arith

pub slice_bounds-grown-end : goal.slice_bounds-grown-end
slice_bounds-grown-end c = let x = (c.loop-r.invariant c.requires.records c.requires.rest) in let n = (found_first c.args.file.now c.loop-r.at c.next_known.ensures c.in-Some.is) x.records x.rest in let h = n.held in let a = h.least in let i = h.inside in let l = n.later in omega arith

pub grown-hull-requires : goal.grown-hull-requires
grown-hull-requires c = let x = (c.loop-r.invariant c.requires.records c.requires.rest) in let n = (found_first c.args.file.now c.loop-r.at c.next_known.ensures c.in-Some.is) x.records x.rest in let h = n.held in let a = h.least in let i = h.inside in let l = n.later in let s = (held-body c.args.file.now c.in-Some.r.at c.in-Some.r.size h).small in let w = from_low c.in-Some.r.kind c.extent_role.ensures c.in-Points.is in (omega arith, omega arith)

pub loop-r-smaller-in-Points : goal.loop-r-smaller-in-Points
loop-r-smaller-in-Points c = let x = (c.loop-r.invariant c.requires.records c.requires.rest) in let n = (found_first c.args.file.now c.loop-r.at c.next_known.ensures c.in-Some.is) x.records x.rest in let h = n.held in let a = h.least in let i = h.inside in let l = n.later in omega arith

pub loop-r-preserved-in-Points : goal.loop-r-preserved-in-Points
loop-r-preserved-in-Points c = spans-grown c.args.file.now c.args.from c.loop-r.at c.loop-r.hull c.loop-r.invariant c.in-Some.r (found_first c.args.file.now c.loop-r.at c.next_known.ensures c.in-Some.is) c.extent_role.ensures c.in-Points.is _ c.grown-hull.ensures

pub loop-r-smaller : goal.loop-r-smaller
loop-r-smaller c = let x = (c.loop-r.invariant c.requires.records c.requires.rest) in let n = (found_first c.args.file.now c.loop-r.at c.next_known.ensures c.in-Some.is) x.records x.rest in let h = n.held in let a = h.least in let i = h.inside in let l = n.later in omega arith

pub loop-r-preserved : goal.loop-r-preserved
loop-r-preserved c = spans-past c.args.file.now c.args.from c.loop-r.at c.loop-r.hull c.loop-r.invariant c.in-Some.r (found_first c.args.file.now c.loop-r.at c.next_known.ensures c.in-Some.is) c.extent_role.ensures c.in-Neither.is
