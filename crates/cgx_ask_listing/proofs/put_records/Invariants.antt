-- The loop law of `Asking`: the lines stored so far, and the listing of the rest after them, are the whole.
use Prim.Native.Nat.{◌-◌}
use lib.ListN.{length}
use Rattle.cgx_ask_listing.proofs.Rests.{Begun}
use Rattle.cgx_ask_listing.proofs.put_records.Given as goal

abbrev pub invariant-loop-found : goal.invariant-loop-found
invariant-loop-found l = Begun l.file l.p l.at l.initial.out l.out l.to

abbrev pub decreases-loop-found : goal.decreases-loop-found
decreases-loop-found l = length l.file - l.at
