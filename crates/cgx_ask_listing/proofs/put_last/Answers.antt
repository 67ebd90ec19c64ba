-- By the verdict. Assumes nothing.
use Rattle.cgx_ask_listing.specs.Listing.{last_line}
use Rattle.cgx_ask_listing.proofs.Lines.{last-room, last_stored}
use Rattle.cgx_ask_listing.proofs.put_last.Goals as goal

pub put_word-requires : goal.put_word-requires
unfolding last_line
put_word-requires c = let s = c in last-room s.args.out.now s.args.at c.in-Ok.is s.requires

pub put_refusal-requires : goal.put_refusal-requires
put_refusal-requires c = let s = c in last-room s.args.out.now s.args.at c.in-Err.is s.requires

pub returns-in-Ok : goal.returns-in-Ok
unfolding last_line
returns-in-Ok c = let w = c in let s = c in last_stored s.args.out.now s.args.at w.in-Ok.is w.put_word.ensures

pub returns-in-Err : goal.returns-in-Err
returns-in-Err c = let w = c in let s = c in last_stored s.args.out.now s.args.at w.in-Err.is w.put_refusal.ensures
