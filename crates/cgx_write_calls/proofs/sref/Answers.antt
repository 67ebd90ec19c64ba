-- The answer is the plan's; where it is taken, the store is that of the record.
use Rattle.std.proofs.lemmas.Result.{err_from_is_err_and}
use mathlib.Core.Path.{sym, ◌∙◌}
use Rattle.cgx_write_given.specs.Srefs.{sref_size}
use Rattle.cgx_write_given.proofs.Srefs.{sref-size}
use Rattle.cgx_write_given.proofs.Ranges.{grid-in, point-in}
use native.Mathlib.Omega.{arith}
use lib.ListN.{length}
use Rattle.cgx_write_given.specs.Given.{given_sref}
use Rattle.cgx_write_given.proofs.Calls.{call-refused, call-taken}
use Rattle.cgx_write_given.proofs.Calling.{calls-promises}
use Rattle.cgx_write_plans.proofs.Order.{call_fits}
use Rattle.cgx_write_calls.proofs.sref.Goals as goal

pub returns-in_err-after : goal.returns-in_err-after
returns-in_err-after c = let a = c.args in
    let p = c.plan_sref in
    let e = err_from_is_err_and c.from_residual.result c.from_residual.ensures.1 in
    record { buf_after = rw (e.1, e.2) (call-refused a.buf.now a.writer (given_sref a.flags a.at a.angle a.magnif a.grid a.name.now) _ (sym p.ensures ∙ c.in_err-after.was)); typed = calls-promises.sref a.flags a.at a.angle a.magnif a.grid a.name.now c.ranges.flags.fits (point-in a.at c.well_formed.1.1.1.0) (grid-in a.grid c.well_formed.1.1.1.1.1.1.0) (λ i. (c.shared_slice_known-1.given i).fits) }

pub store_sref-requires : goal.store_sref-requires
store_sref-requires c = let a = c.args in
    let p = c.plan_sref in
    let h = call_fits (length a.buf.now) a.writer (given_sref a.flags a.at a.angle a.magnif a.grid a.name.now) _ (sref_size a.flags (length a.name.now)) (sym p.ensures ∙ c.in_ok-after.was) (sref-size a.flags a.at a.angle a.magnif a.grid a.name.now) in
    omega (arith, h.small, h.room)

pub returns : goal.returns
returns c = let a = c.args in
    let p = c.plan_sref in
    let o = c.store_sref in
    record { buf_after = call-taken a.buf.now a.writer (given_sref a.flags a.at a.angle a.magnif a.grid a.name.now) _ o.new.buf (sym p.ensures ∙ c.in_ok-after.was) o.ensures; typed = calls-promises.sref a.flags a.at a.angle a.magnif a.grid a.name.now c.ranges.flags.fits (point-in a.at c.well_formed.1.1.1.0) (grid-in a.grid c.well_formed.1.1.1.1.1.1.0) (λ i. (c.shared_slice_known-1.given i).fits) }
