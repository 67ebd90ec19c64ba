-- The answer is the plan's; where it is taken, the store is that of the record.
use Rattle.std.proofs.lemmas.Result.{err_from_is_err_and}
use mathlib.Core.Path.{ap, ◌∙◌, sym}
use Prim.Native.Nat.{◌+◌, ◌*◌}
use Rattle.cgx_write_given.proofs.Sizes.{wire-size}
use Rattle.cgx_write_given.proofs.Ranges.{long-in, style-in}
use native.Mathlib.Omega.{arith}
use lib.IntN.{ℤ}
use lib.ListN.{length}
use mir.Syntax.{w32}
use mir.Val.{to_z, of_z}
use mir.ValLaws.{to_z-of_z}
use Rattle.cgx_write_given.specs.Given.{given_wire}
use Rattle.cgx_write_given.specs.Writing.{call_in}
use Rattle.cgx_write_given.proofs.Calls.{call-refused, call-taken}
use Rattle.cgx_write_given.proofs.Calling.{calls-promises}
use Rattle.cgx_write_plans.proofs.Order.{call_fits}
use Rattle.cgx_write_calls.proofs.wire.Goals as goal

pub returns-in_err-after : goal.returns-in_err-after
returns-in_err-after c = let a = c.args in
    let z = to_z w32 (of_z w32 a.width) in
    let q = ap (λ (x : ℤ). call_in a.buf.now a.writer (given_wire a.style x a.points.now)) (to_z-of_z w32 a.width c.ranges.width) in
    let p = c.plan_wire in
    let e = err_from_is_err_and c.from_residual.result c.from_residual.ensures.1 in
    record { buf_after = rw (e.1, e.2) (call-refused a.buf.now a.writer (given_wire a.style z a.points.now) _ (sym p.ensures ∙ c.in_err-after.was) ∙ q); typed = calls-promises.wire a.style a.width a.points.now (style-in a.style c.well_formed.1.1.0) (long-in a.width c.ranges.width.sfits) c.all_longs.ensures }

pub store_wire-requires : goal.store_wire-requires
store_wire-requires c = let a = c.args in
    let z = to_z w32 (of_z w32 a.width) in
    let p = c.plan_wire in
    let h = call_fits (length a.buf.now) a.writer (given_wire a.style z a.points.now) _ (8 + 4 * length a.points.now) (sym p.ensures ∙ c.in_ok-after.was) (wire-size a.style z a.points.now) in
    omega (arith, h.small, h.room)

pub returns : goal.returns
returns c = let a = c.args in
    let z = to_z w32 (of_z w32 a.width) in
    let q = ap (λ (x : ℤ). call_in a.buf.now a.writer (given_wire a.style x a.points.now)) (to_z-of_z w32 a.width c.ranges.width) in
    let p = c.plan_wire in
    let o = c.store_wire in
    record { buf_after = call-taken a.buf.now a.writer (given_wire a.style z a.points.now) _ o.new.buf (sym p.ensures ∙ c.in_ok-after.was) o.ensures ∙ q; typed = calls-promises.wire a.style a.width a.points.now (style-in a.style c.well_formed.1.1.0) (long-in a.width c.ranges.width.sfits) c.all_longs.ensures }
