-- The loop law of `Asking`, with the question of `Turns`.
use Prim.Native.Nat.{◌-◌, ◌≤◌}
use lib.ListN.{length}
use Rattle.cgx_read_judge.proofs.Asking.{Asked}
use Rattle.cgx_read_check.specs.Measure.{measure_of}
use Rattle.cgx_read_check.proofs.Turns.{ask}
use Rattle.cgx_read_check.proofs.measure.Given as goal

abbrev pub invariant-loop-found : goal.invariant-loop-found
invariant-loop-found l = Asked ask (measure_of l.file) l.file l.p l.at l.length × (l.length ≤ l.at)

abbrev pub decreases-loop-found : goal.decreases-loop-found
decreases-loop-found l = length l.file - l.at
