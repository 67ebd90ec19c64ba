-- Five stores, one after another. Assumes nothing.
use mathlib.Core.List.{◌++◌}
use Rattle.cgx_ask_listing.specs.Ascii.{ascii}
use Rattle.cgx_ask_listing.specs.Listing.{decimal, last_line}
use Rattle.cgx_ask_listing.proofs.Lines.{both, room-left, room-first}
use Rattle.cgx_ask_listing.proofs.put_refusal.Goals as goal

pub put_word-a-requires : goal.put_word-a-requires
unfolding last_line
put_word-a-requires c = let s = c in let d = decimal s.args.r.at ++ ascii "\n" in let n = decimal s.args.r.number ++ (ascii " at " ++ d) in room-first (ascii "refused ") n _ _ s.requires

pub put_decimal-b-requires : goal.put_decimal-b-requires
unfolding last_line
put_decimal-b-requires c = let w = c in let s = c in let d = decimal s.args.r.at ++ ascii "\n" in let n = decimal s.args.r.number ++ (ascii " at " ++ d) in room-first (decimal s.args.r.number) (ascii " at " ++ d) _ _ (room-left n w.put_word-a.ensures s.requires)

pub put_word-c-requires : goal.put_word-c-requires
unfolding last_line
put_word-c-requires c = let x = c in let w = c in let s = c in let d = decimal s.args.r.at ++ ascii "\n" in let n = decimal s.args.r.number ++ (ascii " at " ++ d) in room-first (ascii " at ") d _ _ (room-left (ascii " at " ++ d) x.put_decimal-b.ensures (room-left n w.put_word-a.ensures s.requires))

pub put_decimal-d-requires : goal.put_decimal-d-requires
unfolding last_line
put_decimal-d-requires c = let y = c in let x = c in let w = c in let s = c in let d = decimal s.args.r.at ++ ascii "\n" in let n = decimal s.args.r.number ++ (ascii " at " ++ d) in room-first (decimal s.args.r.at) (ascii "\n") _ _ (room-left d y.put_word-c.ensures (room-left (ascii " at " ++ d) x.put_decimal-b.ensures (room-left n w.put_word-a.ensures s.requires)))

pub put_word-requires : goal.put_word-requires
unfolding last_line
put_word-requires c = let z = c in let y = c in let x = c in let w = c in let s = c in let d = decimal s.args.r.at ++ ascii "\n" in let n = decimal s.args.r.number ++ (ascii " at " ++ d) in room-left (ascii "\n") z.put_decimal-d.ensures (room-left d y.put_word-c.ensures (room-left (ascii " at " ++ d) x.put_decimal-b.ensures (room-left n w.put_word-a.ensures s.requires)))

pub returns : goal.returns
unfolding last_line
returns c = let v = c in let z = c in let y = c in let x = c in let w = c in both w.put_word-a.ensures (both x.put_decimal-b.ensures (both y.put_word-c.ensures (both z.put_decimal-d.ensures v.put_word.ensures)))
