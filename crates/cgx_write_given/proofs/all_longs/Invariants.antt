-- The invariant: all are longs where those that are left are.
use lib.ListN.{drop}
use Rattle.cgx_write_given.specs.Typed.{Longs}
use Rattle.cgx_write_given.proofs.all_longs.Given as goal

abbrev pub invariant-loop-z : goal.invariant-loop-z
invariant-loop-z l = Longs (drop l.z-index l.zs) → Longs l.zs
