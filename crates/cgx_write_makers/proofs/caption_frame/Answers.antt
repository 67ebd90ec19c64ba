-- The plan and the stores are those of the three records in turn.
use Rattle.std.proofs.lemmas.Result.{err_from_is_err_and}
use mathlib.Core.Path.{sym, ap, ap₂, ◌∙◌}
use mathlib.Core.List.{List, [], ◌∷◌, ◌++◌}
use Prim.Native.Nat.{ℕ}
use native.Mathlib.Omega.{arith}
use lib.IntN.{ℤ}
use lib.ListN.{length}
use mir.Syntax.{w32}
use mir.Val.{to_z, of_z}
use Rattle.cgx_spec.specs.Records.{bytes_of}
use Rattle.buffers.specs.Put.{put}
use Rattle.cgx_format_kinds.specs.declared.Point.{Point}
use Rattle.cgx_write_given.specs.Writing.{is_taken}
use Rattle.cgx_write_given.specs.Given.{written}
use Rattle.cgx_write_makers.specs.Makers.{outline, caption, all_in}
use Rattle.cgx_write_makers.proofs.Turns.{all-refused, all-taken}
use Rattle.cgx_write_makers.proofs.Outline.{frame-stored, outline-fits, frame-fits, corners-held, point-held}
use Rattle.cgx_write_makers.proofs.Demand.{frame-typed}
use Rattle.cgx_write_makers.proofs.caption_frame.Goals as goal

pub returns-in_err-after : goal.returns-in_err-after
returns-in_err-after c = let a = c.args in
    let zs = c.corners_of-corners.result in
    let p : Point = record { x = to_z w32 (of_z w32 a.left); y = to_z w32 (of_z w32 a.bottom) } in
    let t = a.label.now in
    let gs = outline zs ++ (caption p t ∷ []) in
    let planned = sym c.plan_frame.ensures in
    let q = ap₂ (λ (x : List ℤ) (y : Point). all_in a.buf.now a.writer (outline x ++ (caption y t ∷ []))) (c.corners_of-corners.ensures ∙ corners-held a.left a.bottom a.right a.top c.ranges.left c.ranges.bottom c.ranges.right c.ranges.top) (point-held a.left a.bottom a.right a.top c.ranges.left c.ranges.bottom c.ranges.right c.ranges.top) in
    let e = err_from_is_err_and c.from_residual.result c.from_residual.ensures.1 in
    record { buf_after = rw (e.1, e.2) (all-refused a.buf.now a.writer gs _ (planned ∙ c.in_err-after.was) ∙ q); typed = frame-typed a.left a.bottom a.right a.top c.ranges.left c.ranges.bottom c.ranges.right c.ranges.top t (λ i. (c.shared_slice_known-1.given i).fits) }

pub store_outline-to-requires : goal.store_outline-to-requires
store_outline-to-requires c = let a = c.args in
    let zs = c.corners_of-corners.result in
    let p : Point = record { x = to_z w32 (of_z w32 a.left); y = to_z w32 (of_z w32 a.bottom) } in
    let t = a.label.now in
    let gs = outline zs ++ (caption p t ∷ []) in
    let planned = sym c.plan_frame.ensures in
    let f = outline-fits zs a.writer (length a.buf.now) (caption p t ∷ []) (ap is_taken (planned ∙ c.in_ok-after.was)) in
    omega (arith, f.0, f.1)

pub store_text-requires : goal.store_text-requires
store_text-requires c = let a = c.args in
    let zs = c.corners_of-corners.result in
    let p : Point = record { x = to_z w32 (of_z w32 a.left); y = to_z w32 (of_z w32 a.bottom) } in
    let t = a.label.now in
    let gs = outline zs ++ (caption p t ∷ []) in
    let planned = sym c.plan_frame.ensures in
    let f = frame-fits zs a.writer (length a.buf.now) p t (ap is_taken (planned ∙ c.in_ok-after.was)) in
    let o = c.store_outline-to in
    omega (arith, f.0, f.1, o.ensures.0, c.buf-1.given)

pub returns : goal.returns
returns c = let a = c.args in
    let zs = c.corners_of-corners.result in
    let p : Point = record { x = to_z w32 (of_z w32 a.left); y = to_z w32 (of_z w32 a.bottom) } in
    let t = a.label.now in
    let gs = outline zs ++ (caption p t ∷ []) in
    let planned = sym c.plan_frame.ensures in
    let q = ap₂ (λ (x : List ℤ) (y : Point). all_in a.buf.now a.writer (outline x ++ (caption y t ∷ []))) (c.corners_of-corners.ensures ∙ corners-held a.left a.bottom a.right a.top c.ranges.left c.ranges.bottom c.ranges.right c.ranges.top) (point-held a.left a.bottom a.right a.top c.ranges.left c.ranges.bottom c.ranges.right c.ranges.top) in
    let o = c.store_outline-to in
    let x = c.store_text in
    let w = x.ensures ∙ ap (λ (l : List ℕ). put l o.result (bytes_of (written (caption p t)))) o.ensures.1 ∙ frame-stored zs a.writer a.buf.now p t o.result o.ensures.0 in
    record { buf_after = all-taken a.buf.now a.writer gs _ x.new.buf (planned ∙ c.in_ok-after.was) w ∙ q; typed = frame-typed a.left a.bottom a.right a.top c.ranges.left c.ranges.bottom c.ranges.right c.ranges.top t (λ i. (c.shared_slice_known-1.given i).fits) }
