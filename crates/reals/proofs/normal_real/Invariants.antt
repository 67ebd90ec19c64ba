-- `reals::normal_real` is right: the loop keeps what `lower` makes of exponent and mantissa, and ends where `lower` does. Assumes nothing.
use mathlib.Core.Path.{◌≡◌}
use Prim.Native.Nat.{◌<◌, ◌^◌}
use Rattle.cgx_spec.specs.Reals.{lower}
use Rattle.reals.proofs.normal_real.Given as goal

abbrev pub invariant-loop-m : goal.invariant-loop-m
invariant-loop-m l = (lower l.e l.m ≡ lower l.initial.e l.initial.m) × (l.m < 2 ^ 56) × (l.e < 128)

abbrev pub decreases-loop-m : goal.decreases-loop-m
decreases-loop-m l = l.e
