-- The answer is the plan's; where it is taken, the store is that of the record.
use Rattle.std.proofs.lemmas.Result.{err_from_is_err_and}
use mathlib.Core.Path.{ap, ◌∙◌, sym}
use Prim.Native.Nat.{◌+◌, ◌*◌, ◌/◌}
use Rattle.cgx_write_given.proofs.Widths.{owned-size}
use native.Mathlib.Omega.{arith}
use lib.IntN.{ℤ}
use lib.ListN.{length}
use mir.Syntax.{w32}
use mir.Val.{to_z, of_z}
use mir.ValLaws.{to_z-of_z}
use Rattle.cgx_write_given.specs.Given.{given_owned}
use Rattle.cgx_write_given.specs.Writing.{call_in}
use Rattle.cgx_write_given.proofs.Calls.{call-refused, call-taken}
use Rattle.cgx_write_plans.proofs.Order.{call_fits}
use Rattle.cgx_write_calls.proofs.owned.Goals as goal

pub returns-in_err-after : goal.returns-in_err-after
returns-in_err-after c = let a = c.args in
    let z = to_z w32 (of_z w32 a.number) in
    let q = ap (λ (x : ℤ). call_in a.buf.now a.writer (given_owned a.owner x a.value.now)) (to_z-of_z w32 a.number c.ranges.number) in
    let p = c.plan_property in
    let e = err_from_is_err_and c.from_residual.result c.from_residual.ensures.1 in
    rw (e.1, e.2) (call-refused a.buf.now a.writer (given_owned a.owner z a.value.now) _ (sym p.ensures ∙ c.in_err-after.was) ∙ q)

pub store_property-requires : goal.store_property-requires
store_property-requires c = let a = c.args in
    let z = to_z w32 (of_z w32 a.number) in
    let p = c.plan_property in
    let h = call_fits (length a.buf.now) a.writer (given_owned a.owner z a.value.now) _ (10 + length a.value.now / 2 * 2) (sym p.ensures ∙ c.in_ok-after.was) (owned-size a.owner z a.value.now) in
    omega (arith, h.small, h.room)

pub returns : goal.returns
returns c = let a = c.args in
    let z = to_z w32 (of_z w32 a.number) in
    let q = ap (λ (x : ℤ). call_in a.buf.now a.writer (given_owned a.owner x a.value.now)) (to_z-of_z w32 a.number c.ranges.number) in
    let p = c.plan_property in
    let o = c.store_property in
    call-taken a.buf.now a.writer (given_owned a.owner z a.value.now) _ o.new.buf (sym p.ensures ∙ c.in_ok-after.was) o.ensures ∙ q
