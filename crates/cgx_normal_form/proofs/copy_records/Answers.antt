-- The invariant: what is written so far, with the normal form of the rest of the records after it, is the goal.
use mathlib.Core.Path.{refl, ap, ◌∙◌}
use mathlib.Core.List.{List}
use Prim.Native.Nat.{ℕ}
use native.Mathlib.Omega.{arith}
use lib.ListN.{length, take}
use Rattle.cgx_spec.specs.Files.{records_of}
use Rattle.buffers.specs.Put.{put}
use Rattle.buffers.proofs.Puts.{put-length}
use Rattle.cgx_read_sequence.proofs.Rests.{found_first, found-end}
use Rattle.cgx_read_check.specs.Measure.{normal_run}
use Rattle.cgx_read_check.proofs.Runs.{form-long}
use Rattle.cgx_normal_form.proofs.Rests.{long, four, written-first, written-form, copyable, written_on, written_all}
use Rattle.cgx_normal_form.proofs.copy_records.Goals as goal

pub slice_bounds-put_bytes-end : goal.slice_bounds-put_bytes-end
slice_bounds-put_bytes-end c = let z = long c.args.file.now (λ i. (c.type_inv.file i).fits) c.requires.0 in omega arith

pub put_bytes-requires : goal.put_bytes-requires
put_bytes-requires c = let z = long c.args.file.now (λ i. (c.type_inv.file i).fits) c.requires.0 in let y = form-long c.args.file.now z in let w = c.requires.1 in rw (four c.args.file.now (λ i. (c.type_inv.file i).fits) c.requires.0) (omega arith)

pub loop-r-init : goal.loop-r-init
loop-r-init c = let k = ap length c.put_bytes.ensures ∙ put-length c.args.out.now 0 (take 4 c.args.file.now) in (written-first c.args.file.now (λ i. (c.type_inv.file i).fits) c.requires.0 _ (let w = c.requires.1 in omega arith), refl, omega arith)

pub next_known-requires : goal.next_known-requires
next_known-requires c = record { records = c.loop-r.invariant.0.rs; rest = c.loop-r.invariant.0.rest }

pub returns : goal.returns
returns c = written_all c.args.file.now c.loop-r.at _ c.loop-r.out c.loop-r.to c.loop-r.invariant.0 (found-end c.args.file.now c.loop-r.at c.next_known.ensures c.in_default.is c.loop-r.invariant.0.rs c.loop-r.invariant.0.rest).sequence ∙ ap (λ (x : List ℕ). put x 4 (normal_run (records_of c.args.file.now))) c.put_bytes.ensures ∙ written-form c.args.file.now (λ i. (c.type_inv.file i).fits) c.requires.0 c.args.out.now

pub copy_record-requires : goal.copy_record-requires
copy_record-requires c = copyable c.args.file.now (λ i. (c.type_inv.file i).fits) c.loop-r.at _ c.loop-r.out c.loop-r.to c.loop-r.invariant.0 c.in-Some.r (found_first c.args.file.now c.loop-r.at c.next_known.ensures c.in-Some.is c.loop-r.invariant.0.rs c.loop-r.invariant.0.rest)

pub overflow_add-to : goal.overflow_add-to
overflow_add-to c = let n = (found_first c.args.file.now c.loop-r.at c.next_known.ensures c.in-Some.is c.loop-r.invariant.0.rs c.loop-r.invariant.0.rest) in let h = n.held in let a = h.least in let i = h.inside in let l = n.later in omega arith

pub overflow_add-at : goal.overflow_add-at
overflow_add-at c = let n = (found_first c.args.file.now c.loop-r.at c.next_known.ensures c.in-Some.is c.loop-r.invariant.0.rs c.loop-r.invariant.0.rest) in let h = n.held in let a = h.least in let i = h.inside in let l = n.later in omega arith

pub loop-r-smaller : goal.loop-r-smaller
loop-r-smaller c = let n = (found_first c.args.file.now c.loop-r.at c.next_known.ensures c.in-Some.is c.loop-r.invariant.0.rs c.loop-r.invariant.0.rest) in let h = n.held in let a = h.least in let i = h.inside in let l = n.later in omega arith

pub loop-r-preserved : goal.loop-r-preserved
loop-r-preserved c = let n = (found_first c.args.file.now c.loop-r.at c.next_known.ensures c.in-Some.is c.loop-r.invariant.0.rs c.loop-r.invariant.0.rest) in let l = n.later in (written_on c.args.file.now (λ i. (c.type_inv.file i).fits) c.loop-r.at _ c.loop-r.out c.loop-r.to c.loop-r.invariant.0 c.in-Some.r (found_first c.args.file.now c.loop-r.at c.next_known.ensures c.in-Some.is c.loop-r.invariant.0.rs c.loop-r.invariant.0.rest) _ c.copy_record.ensures, ap length c.copy_record.ensures ∙ put-length c.loop-r.out c.loop-r.to _ ∙ c.loop-r.invariant.1, omega arith)
