-- The tests of `good_layer` in its order; the rules 9, 10 and 12 have nothing to say of a LAYER.
use mathlib.Core.Path.{ap}
use native.Mathlib.Omega.{arith}
use Rattle.cgx_spec.specs.Verdicts.{numbered}
use Rattle.cgx_format_headers.proofs.Heads.{header-in}
use Rattle.cgx_read_steps.proofs.Steps.{held-body}
use Rattle.cgx_ask_layer_name.proofs.Layers.{low, odd, beyond, no_record, other-type, faulty, present-good}
use Rattle.cgx_ask_layer_name.proofs.layer_size.Goals as goal

pub returns-then-at-lt4 : goal.returns-then-at-lt4
returns-then-at-lt4 c = low c.args.file.now c.args.at (omega arith)

pub returns-then-at-eq1 : goal.returns-then-at-eq1
returns-then-at-eq1 c = odd c.args.file.now c.args.at (omega arith) c.if-at-eq1.true

pub returns-then-file-at : goal.returns-then-file-at
returns-then-file-at c = beyond c.args.file.now c.args.at (omega arith) c.if-at-eq1.false c.if-file-at.true

pub returns-then-not-is_layer : goal.returns-then-not-is_layer
returns-then-not-is_layer c = other-type c.args.file.now c.args.at (omega arith) c.if-at-eq1.false c.header_at.result c.header_at.ensures c.in-Ok.is c.is_layer.ensures c.if-not-is_layer.true

pub overflow_add-to : goal.overflow_add-to
overflow_add-to c = let h = (header-in c.args.file.now c.args.at c.header_at.ensures c.in-Ok.is).held in let a = h.least in let i = h.inside in omega arith

pub slice_bounds-body_fault-count : goal.slice_bounds-body_fault-count
slice_bounds-body_fault-count c = let h = (header-in c.args.file.now c.args.at c.header_at.ensures c.in-Ok.is).held in let a = h.least in let i = h.inside in omega arith

pub slice_bounds-body_fault-start : goal.slice_bounds-body_fault-start
slice_bounds-body_fault-start c = let h = (header-in c.args.file.now c.args.at c.header_at.ensures c.in-Ok.is).held in let a = h.least in let i = h.inside in omega arith

pub slice_bounds-body_fault-end : goal.slice_bounds-body_fault-end
slice_bounds-body_fault-end c = let h = (header-in c.args.file.now c.args.at c.header_at.ensures c.in-Ok.is).held in let a = h.least in let i = h.inside in omega arith

pub body_fault-requires : goal.body_fault-requires
body_fault-requires c = held-body c.args.file.now c.args.at _ (header-in c.args.file.now c.args.at c.header_at.ensures c.in-Ok.is).held

pub returns-in_default : goal.returns-in_default
returns-in_default c = no_record c.args.file.now c.args.at (omega arith) c.if-at-eq1.false c.header_at.result c.header_at.ensures c.in_default.is

pub returns-in-Ok-body_fault : goal.returns-in-Ok-body_fault
returns-in-Ok-body_fault c = present-good c.args.file.now c.args.at (omega arith) c.if-at-eq1.false c.header_at.result c.header_at.ensures c.in-Ok.is c.is_layer.ensures c.if-not-is_layer.false c.body_fault.ensures (ap numbered c.in-Ok-body_fault.is)

pub returns-in-Err : goal.returns-in-Err
returns-in-Err c = faulty c.args.file.now c.args.at (omega arith) c.if-at-eq1.false c.header_at.result c.header_at.ensures c.in-Ok.is c.is_layer.ensures c.if-not-is_layer.false c.body_fault.ensures (ap numbered c.in-Err.is)
