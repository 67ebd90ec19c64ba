-- The offset, and the name after it. Assumes nothing.
use Rattle.cgx_ask_listing.specs.Listing.{decimal, name_end, line}
use Rattle.cgx_ask_listing.proofs.Lines.{both, room-left, room-first, named-so}
use Rattle.cgx_ask_listing.proofs.put_line.Goals as goal

pub put_decimal-to-requires : goal.put_decimal-to-requires
unfolding line
put_decimal-to-requires c = room-first (decimal c.args.offset) (name_end c.args.k) _ _ c.requires

pub put_word-requires : goal.put_word-requires
unfolding line
put_word-requires c = rw c.name_end.ensures (room-left (name_end c.args.k) c.put_decimal-to.ensures c.requires)

pub returns : goal.returns
unfolding line
returns c = both c.put_decimal-to.ensures (named-so c.name_end.ensures c.put_word.ensures)
