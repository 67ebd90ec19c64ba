-- The invariant: what is left of the points widens the rectangle so far to the whole.
use mathlib.Core.Path.{◌≡◌}
use lib.ListN.{drop}
use Rattle.cgx_ask_extent.specs.Extent.{widest, pairs}
use Rattle.cgx_spec.specs.Numbers.{longs_of}
use Rattle.cgx_ask_extent.proofs.around.Given as goal

abbrev pub invariant-loop-point : goal.invariant-loop-point
invariant-loop-point l = (l.point-iterator.size ≡ 8) × (widest l.initial.sides (pairs (longs_of (drop l.from l.b))) ≡ widest l.sides (pairs (longs_of l.point-iterator.rest.now)))
