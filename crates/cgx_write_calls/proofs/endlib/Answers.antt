-- The answer is the plan's; where it is taken, the store is that of the record.
use Rattle.std.proofs.lemmas.Result.{err_from_is_err_and}
use mathlib.Core.Path.{sym, ◌∙◌}
use Rattle.cgx_write_given.proofs.Sizes.{endlib-size}
use native.Mathlib.Omega.{arith}
use lib.ListN.{length}
use Rattle.cgx_write_given.specs.Given.{given_endlib}
use Rattle.cgx_write_given.proofs.Calls.{call-refused, call-taken}
use Rattle.cgx_write_given.proofs.Calling.{calls-promises}
use Rattle.cgx_write_plans.proofs.Order.{call_fits}
use Rattle.cgx_write_calls.proofs.endlib.Goals as goal

pub returns-in_err-after : goal.returns-in_err-after
returns-in_err-after c = let a = c.args in
    let p = c.plan_endlib in
    let e = err_from_is_err_and c.from_residual.result c.from_residual.ensures.1 in
    record { buf_after = rw (e.1, e.2) (call-refused a.buf.now a.writer given_endlib _ (sym p.ensures ∙ c.in_err-after.was)); typed = calls-promises.endlib }

pub store_endlib-requires : goal.store_endlib-requires
store_endlib-requires c = let a = c.args in
    let p = c.plan_endlib in
    let h = call_fits (length a.buf.now) a.writer given_endlib _ (4) (sym p.ensures ∙ c.in_ok-after.was) (endlib-size) in
    omega (arith, h.small, h.room)

pub returns : goal.returns
returns c = let a = c.args in
    let p = c.plan_endlib in
    let o = c.store_endlib in
    record { buf_after = call-taken a.buf.now a.writer given_endlib _ o.new.buf (sym p.ensures ∙ c.in_ok-after.was) o.ensures; typed = calls-promises.endlib }
