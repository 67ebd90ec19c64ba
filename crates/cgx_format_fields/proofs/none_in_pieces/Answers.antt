-- The piece with a zero ends the search.
use Rattle.std.proofs.Common.{rules}
use native.Mathlib.Omega.{arith}
use Rattle.cgx_format_fields.proofs.Pieces.{zero-at}
use Rattle.cgx_format_fields.proofs.none_in_pieces.Goals as goal

pub returns-then-lowest-eq0 : goal.returns-then-lowest-eq0
returns-then-lowest-eq0 c = let l = c.loop-piece in zero-at c.args.pieces.now l.piece-index (omega arith) l.invariant (search rules)
