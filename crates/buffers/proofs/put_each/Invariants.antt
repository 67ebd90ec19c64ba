-- `buffers::put_each` is right: at each turn, storing what is left of the source gives what the whole store is to give. Assumes nothing.
use mathlib.Core.Path.{◌≡◌}
use Prim.Native.Nat.{◌+◌}
use lib.ListN.{drop}
use Rattle.buffers.specs.Put.{put}
use Rattle.buffers.proofs.put_each.Given as goal

abbrev pub invariant-loop-i : goal.invariant-loop-i
invariant-loop-i l = put l.out (l.at + l.i) (drop l.i l.src) ≡ put l.initial.out l.at l.src
