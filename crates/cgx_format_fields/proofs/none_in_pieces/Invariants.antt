-- The invariant: what is left is as the whole, since no piece before it has a zero.
use mathlib.Core.Path.{◌≡◌}
use mathlib.Core.Bool.{true}
use lib.ListN.{drop}
use Rattle.cgx_format_fields.proofs.Pieces.{pieces}
use Rattle.cgx_format_fields.proofs.none_in_pieces.Given as goal

abbrev pub invariant-loop-piece : goal.invariant-loop-piece
invariant-loop-piece l = pieces true (drop l.piece-index l.pieces) ≡ pieces true l.pieces
