-- The invariant: the whole has no zero where the lowest byte so far is none and the rest has none.
use mathlib.Core.Path.{◌≡◌}
use mathlib.Core.Bool.{not, ◌&&◌}
use lib.Dec.{eqb}
use lib.ListN.{drop}
use Rattle.cgx_format_fields.specs.Zeros.{no_zero}
use Rattle.cgx_format_fields.proofs.lowest.Given as goal

abbrev pub invariant-loop-b : goal.invariant-loop-b
invariant-loop-b l = no_zero l.piece ≡ (not (eqb l.low 0) && no_zero (drop l.b-index l.piece))
