-- The invariant: the hull so far, with the points of the rest, is that of the cell (`Cells`).
use Prim.Native.Nat.{◌-◌}
use lib.ListN.{length}
use Rattle.cgx_ask_extent.proofs.Cells.{SpansAll}
use Rattle.cgx_ask_extent.proofs.hull_of.Given as goal

abbrev pub invariant-loop-r : goal.invariant-loop-r
invariant-loop-r l = SpansAll l.file l.from l.at l.hull

abbrev pub decreases-loop-r : goal.decreases-loop-r
decreases-loop-r l = length l.file - l.at
