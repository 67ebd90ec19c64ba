-- The answer is the plan's; where it is taken, the store is that of the record.
use Rattle.std.proofs.lemmas.Result.{err_from_is_err_and}
use mathlib.Core.Path.{sym, ◌∙◌}
use Prim.Native.Nat.{◌+◌, ◌*◌}
use Rattle.cgx_write_given.proofs.Sizes.{poly-size}
use native.Mathlib.Omega.{arith}
use lib.ListN.{length}
use Rattle.cgx_write_given.specs.Given.{given_poly}
use Rattle.cgx_write_given.proofs.Calls.{call-refused, call-taken}
use Rattle.cgx_write_given.proofs.Calling.{calls-promises}
use Rattle.cgx_write_plans.proofs.Order.{call_fits}
use Rattle.cgx_write_calls.proofs.poly.Goals as goal

pub returns-in_err-after : goal.returns-in_err-after
returns-in_err-after c = let a = c.args in
    let p = c.plan_poly in
    let e = err_from_is_err_and c.from_residual.result c.from_residual.ensures.1 in
    record { buf_after = rw (e.1, e.2) (call-refused a.buf.now a.writer (given_poly a.points.now) _ (sym p.ensures ∙ c.in_err-after.was)); typed = calls-promises.poly a.points.now c.all_longs.ensures }

pub store_poly-requires : goal.store_poly-requires
store_poly-requires c = let a = c.args in
    let p = c.plan_poly in
    let h = call_fits (length a.buf.now) a.writer (given_poly a.points.now) _ (4 + 4 * length a.points.now) (sym p.ensures ∙ c.in_ok-after.was) (poly-size a.points.now) in
    omega (arith, h.small, h.room)

pub returns : goal.returns
returns c = let a = c.args in
    let p = c.plan_poly in
    let o = c.store_poly in
    record { buf_after = call-taken a.buf.now a.writer (given_poly a.points.now) _ o.new.buf (sym p.ensures ∙ c.in_ok-after.was) o.ensures; typed = calls-promises.poly a.points.now c.all_longs.ensures }
