-- The answer is the plan's; where it is taken, the store is that of the record.
use Rattle.std.proofs.lemmas.Result.{err_from_is_err_and}
use mathlib.Core.Path.{ap, ◌∙◌, sym}
use Prim.Native.Nat.{◌+◌, ◌*◌, ◌/◌}
use Rattle.cgx_write_given.proofs.Sizes.{label-size}
use Rattle.cgx_write_given.proofs.Ranges.{long-in, point-in}
use native.Mathlib.Omega.{arith}
use lib.IntN.{ℤ}
use lib.ListN.{length}
use mir.Syntax.{w32}
use mir.Val.{to_z, of_z}
use mir.ValLaws.{to_z-of_z}
use Rattle.cgx_write_given.specs.Given.{given_text}
use Rattle.cgx_write_given.specs.Writing.{call_in}
use Rattle.cgx_write_given.proofs.Calls.{call-refused, call-taken}
use Rattle.cgx_write_given.proofs.Calling.{calls-promises}
use Rattle.cgx_write_plans.proofs.Order.{call_fits}
use Rattle.cgx_write_calls.proofs.text.Goals as goal

pub returns-in_err-after : goal.returns-in_err-after
returns-in_err-after c = let a = c.args in
    let z = to_z w32 (of_z w32 a.width) in
    let q = ap (λ (x : ℤ). call_in a.buf.now a.writer (given_text a.flags a.at x a.label.now)) (to_z-of_z w32 a.width c.ranges.width) in
    let p = c.plan_text in
    let e = err_from_is_err_and c.from_residual.result c.from_residual.ensures.1 in
    record { buf_after = rw (e.1, e.2) (call-refused a.buf.now a.writer (given_text a.flags a.at z a.label.now) _ (sym p.ensures ∙ c.in_err-after.was) ∙ q); typed = calls-promises.text a.flags a.at a.width a.label.now c.ranges.flags.fits (point-in a.at c.well_formed.1.1.1.0) (long-in a.width c.ranges.width.sfits) (λ i. (c.shared_slice_known-1.given i).fits) }

pub store_text-requires : goal.store_text-requires
store_text-requires c = let a = c.args in
    let z = to_z w32 (of_z w32 a.width) in
    let p = c.plan_text in
    let h = call_fits (length a.buf.now) a.writer (given_text a.flags a.at z a.label.now) _ (18 + length a.label.now / 2 * 2) (sym p.ensures ∙ c.in_ok-after.was) (label-size a.flags a.at z a.label.now) in
    omega (arith, h.small, h.room)

pub returns : goal.returns
returns c = let a = c.args in
    let z = to_z w32 (of_z w32 a.width) in
    let q = ap (λ (x : ℤ). call_in a.buf.now a.writer (given_text a.flags a.at x a.label.now)) (to_z-of_z w32 a.width c.ranges.width) in
    let p = c.plan_text in
    let o = c.store_text in
    record { buf_after = call-taken a.buf.now a.writer (given_text a.flags a.at z a.label.now) _ o.new.buf (sym p.ensures ∙ c.in_ok-after.was) o.ensures ∙ q; typed = calls-promises.text a.flags a.at a.width a.label.now c.ranges.flags.fits (point-in a.at c.well_formed.1.1.1.0) (long-in a.width c.ranges.width.sfits) (λ i. (c.shared_slice_known-1.given i).fits) }
