-- The plan and the stores are those of the two records in turn.
use Rattle.std.proofs.lemmas.Result.{err_from_is_err_and}
use mathlib.Core.Path.{sym, ap, ◌∙◌}
use mathlib.Core.List.{List, []}
use native.Mathlib.Omega.{arith}
use lib.IntN.{ℤ}
use lib.ListN.{length}
use Rattle.cgx_write_given.specs.Writing.{is_taken}
use Rattle.cgx_write_makers.specs.Makers.{outline, all_in}
use Rattle.cgx_write_makers.proofs.Turns.{all-refused, all-taken}
use Rattle.cgx_write_makers.proofs.Outline.{outline-stored, outline-fits, corners-held}
use Rattle.cgx_write_makers.proofs.Demand.{card-typed}
use Rattle.cgx_write_makers.proofs.test_card.Goals as goal

pub returns-in_err-after : goal.returns-in_err-after
returns-in_err-after c = let a = c.args in
    let zs = c.corners_of-corners.result in
    let p = sym c.plan_outline.ensures in
    let q = ap (λ (x : List ℤ). all_in a.buf.now a.writer (outline x)) (c.corners_of-corners.ensures ∙ corners-held a.left a.bottom a.right a.top c.ranges.left c.ranges.bottom c.ranges.right c.ranges.top) in
    let e = err_from_is_err_and c.from_residual.result c.from_residual.ensures.1 in
    record { buf_after = rw (e.1, e.2) (all-refused a.buf.now a.writer (outline zs) _ (p ∙ c.in_err-after.was) ∙ q); typed = card-typed a.left a.bottom a.right a.top c.ranges.left c.ranges.bottom c.ranges.right c.ranges.top }

pub store_outline-requires : goal.store_outline-requires
store_outline-requires c = let a = c.args in
    let zs = c.corners_of-corners.result in
    let p = sym c.plan_outline.ensures in
    let f = outline-fits zs a.writer (length a.buf.now) [] (ap is_taken (p ∙ c.in_ok-after.was)) in
    omega (arith, f.0, f.1)

pub returns : goal.returns
returns c = let a = c.args in
    let zs = c.corners_of-corners.result in
    let p = sym c.plan_outline.ensures in
    let q = ap (λ (x : List ℤ). all_in a.buf.now a.writer (outline x)) (c.corners_of-corners.ensures ∙ corners-held a.left a.bottom a.right a.top c.ranges.left c.ranges.bottom c.ranges.right c.ranges.top) in
    let o = c.store_outline in
    record { buf_after = all-taken a.buf.now a.writer (outline zs) _ o.new.buf (p ∙ c.in_ok-after.was) (o.ensures.1 ∙ outline-stored zs a.writer a.buf.now) ∙ q; typed = card-typed a.left a.bottom a.right a.top c.ranges.left c.ranges.bottom c.ranges.right c.ranges.top }
