-- The invariant: the whole has no zero where the lowest byte so far is none and the rest has none.
use mathlib.Core.Path.{sym, ap, ◌∙◌}
use mathlib.Core.Bool.{not, ◌&&◌}
use Prim.Native.Nat.{ℕ, ◌+◌}
use native.Mathlib.Omega.{arith}
use lib.Dec.{eqb}
use lib.ListN.{drop}
use Rattle.cgx_format_fields.specs.Zeros.{no_zero}
use Rattle.cgx_format_fields.proofs.Pieces.{low-on, low-done}
use Rattle.cgx_format_fields.proofs.lowest.Goals as goal

pub loop-b-preserved : goal.loop-b-preserved
loop-b-preserved c = let l = c.loop-b in let p = c.args.piece.now in
    low-on p l.b-index l.low l.invariant (omega arith) ∙ ap (λ (n : ℕ). not (eqb n 0) && no_zero (drop (l.b-index + 1) p)) (sym c.min-low.ensures)

pub returns : goal.returns
returns c = let l = c.loop-b in low-done c.args.piece.now l.b-index l.low l.invariant (omega arith) (omega arith)
