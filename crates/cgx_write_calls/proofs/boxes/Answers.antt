-- The answer is the plan's; where it is taken, the store is that of the record.
use Rattle.std.proofs.lemmas.Result.{err_from_is_err_and}
use mathlib.Core.Path.{sym, ◌∙◌}
use Prim.Native.Nat.{◌+◌, ◌*◌}
use Rattle.cgx_write_given.proofs.Sizes.{box-size}
use native.Mathlib.Omega.{arith}
use lib.ListN.{length}
use Rattle.cgx_write_given.specs.Given.{given_box}
use Rattle.cgx_write_given.proofs.Calls.{call-refused, call-taken}
use Rattle.cgx_write_given.proofs.Calling.{calls-promises}
use Rattle.cgx_write_plans.proofs.Order.{call_fits}
use Rattle.cgx_write_calls.proofs.boxes.Goals as goal

pub returns-in_err-after : goal.returns-in_err-after
returns-in_err-after c = let a = c.args in
    let p = c.plan_box in
    let e = err_from_is_err_and c.from_residual.result c.from_residual.ensures.1 in
    record { buf_after = rw (e.1, e.2) (call-refused a.buf.now a.writer (given_box a.sides.now) _ (sym p.ensures ∙ c.in_err-after.was)); typed = calls-promises.box a.sides.now c.all_longs.ensures }

pub store_box-requires : goal.store_box-requires
store_box-requires c = let a = c.args in
    let p = c.plan_box in
    let h = call_fits (length a.buf.now) a.writer (given_box a.sides.now) _ (4 + 4 * length a.sides.now) (sym p.ensures ∙ c.in_ok-after.was) (box-size a.sides.now) in
    omega (arith, h.small, h.room)

pub returns : goal.returns
returns c = let a = c.args in
    let p = c.plan_box in
    let o = c.store_box in
    record { buf_after = call-taken a.buf.now a.writer (given_box a.sides.now) _ o.new.buf (sym p.ensures ∙ c.in_ok-after.was) o.ensures; typed = calls-promises.box a.sides.now c.all_longs.ensures }
