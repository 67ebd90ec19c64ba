-- The answer is the plan's; where it is taken, the store is that of the record.
use Rattle.std.proofs.lemmas.Result.{err_from_is_err_and}
use mathlib.Core.Path.{sym, ◌∙◌}
use Rattle.std.specs.Prelude.{Some}
use Prim.Native.Nat.{◌+◌, ◌*◌, ◌/◌}
use Rattle.cgx_write_given.proofs.Sizes.{named-size}
use Rattle.cgx_write_given.proofs.Ranges.{number_in, type-in}
use native.Mathlib.Omega.{arith}
use lib.ListN.{length}
use Rattle.cgx_write_given.specs.Given.{given_layer}
use Rattle.cgx_write_given.proofs.Calls.{call-refused, call-taken}
use Rattle.cgx_write_given.proofs.Calling.{calls-promises}
use Rattle.cgx_write_plans.proofs.Order.{call_fits}
use Rattle.cgx_write_calls.proofs.named_layer.Goals as goal

pub returns-in_err-after : goal.returns-in_err-after
returns-in_err-after c = let a = c.args in
    let p = c.plan_named in
    let e = err_from_is_err_and c.from_residual.result c.from_residual.ensures.1 in
    record { buf_after = rw (e.1, e.2) (call-refused a.buf.now a.writer (given_layer a.number a.datatype (Some a.name.now)) _ (sym p.ensures ∙ c.in_err-after.was)); typed = calls-promises.named-layer a.number a.datatype a.name.now (number_in a.number c.well_formed.1.1.0) (type-in a.datatype c.well_formed.1.1.1.0) (λ i. (c.shared_slice_known-1.given i).fits) }

pub store_named-requires : goal.store_named-requires
store_named-requires c = let a = c.args in
    let p = c.plan_named in
    let h = call_fits (length a.buf.now) a.writer (given_layer a.number a.datatype (Some a.name.now)) _ (10 + length a.name.now / 2 * 2) (sym p.ensures ∙ c.in_ok-after.was) (named-size a.number a.datatype a.name.now) in
    omega (arith, h.small, h.room)

pub returns : goal.returns
returns c = let a = c.args in
    let p = c.plan_named in
    let o = c.store_named in
    record { buf_after = call-taken a.buf.now a.writer (given_layer a.number a.datatype (Some a.name.now)) _ o.new.buf (sym p.ensures ∙ c.in_ok-after.was) o.ensures; typed = calls-promises.named-layer a.number a.datatype a.name.now (number_in a.number c.well_formed.1.1.0) (type-in a.datatype c.well_formed.1.1.1.0) (λ i. (c.shared_slice_known-1.given i).fits) }
