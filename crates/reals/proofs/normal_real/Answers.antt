-- `reals::normal_real` is right: the loop keeps what `lower` makes of exponent and mantissa, and ends where `lower` does. Assumes nothing.
use mathlib.Core.Path.{◌≡◌, refl, sym, ◌∙◌}
use Prim.Native.Nat.{◌<◌, ◌^◌}
use native.Mathlib.Omega.{arith}
use Rattle.cgx_spec.specs.Reals.{lower, exponent, mantissa}
use Rattle.cgx_spec.proofs.RealLaws.{lower-step, lower-full, lower-end, normal-of-zero, normal-made}
use Rattle.reals.proofs.normal_real.Goals as goal
use Rattle.reals.proofs.normal_real.Goals.{else-loop-m-test, then-loop-m-test+then-e-eq0}

pub returns-then-m-eq0 : goal.returns-then-m-eq0
unfolding mantissa
returns-then-m-eq0 c = sym (normal-of-zero c.args.w c.if-m-eq0.true)

pub loop-m-init : goal.loop-m-init
loop-m-init c = (refl, omega arith, omega arith)

pub loop-m-preserved : goal.loop-m-preserved
loop-m-preserved c = let l = c.loop-m in
    let below : l.m < 2 ^ 52 = omega arith in
    let above : 0 < l.e = omega arith in
    (lower-step l.e l.m below above ∙ l.invariant.0, omega arith, omega arith)

pub returns : goal.returns
unfolding mantissa exponent
returns c = let l = c.loop-m in
    let w = c.args.w in
    let ends : lower l.e l.m ≡ (l.e, l.m) =
    elim c.loop-m-test.branch [
      | else-loop-m-test q ↦ lower-full l.e l.m q.loop-m-test.false
      | then-loop-m-test+then-e-eq0 q ↦ lower-end l.e l.m q.if-e-eq0.true
    ] in
    sym (normal-made w l.e l.m c.ranges.w.fits c.if-m-eq0.false (sym l.invariant.0 ∙ ends))
