-- `buffers::put_longs` is right: at each turn, storing what is left of the longs gives what the whole store is to give. Assumes nothing.
use mathlib.Core.Path.{◌≡◌}
use Prim.Native.Nat.{◌+◌, ◌*◌}
use lib.ListN.{drop}
use Rattle.buffers.specs.Put.{put, longs_bytes}
use Rattle.buffers.proofs.put_longs.Given as goal

abbrev pub invariant-loop-i : goal.invariant-loop-i
invariant-loop-i l = put l.out (l.at + 4 * l.i) (longs_bytes (drop l.i l.ns)) ≡ put l.initial.out l.at (longs_bytes l.ns)
