-- `buffers::put_text` is right: the one or two zero bytes after the text are what `padded` adds to a text of its length. Assumes nothing.
use mathlib.Core.Path.{ap, ◌∙◌}
use native.Mathlib.Omega.{arith}
use lib.ListN.{length, length-set}
use Rattle.buffers.proofs.Puts.{put-length}
use Rattle.buffers.proofs.Padding.{length-padded, pad-both}
use Rattle.buffers.proofs.put_text.Goals as goal

pub put_bytes-requires : goal.put_bytes-requires
put_bytes-requires c = omega (arith, length-padded c.args.text.now, c.requires)

pub bounds-out-end : goal.bounds-out-end
bounds-out-end c = let s = c in
    let a = s.args in
    omega (arith, length-padded a.text.now, ap length c.put_bytes.ensures ∙ put-length a.out.now a.at a.text.now, s.requires)

pub bounds-out-last : goal.bounds-out-last
bounds-out-last c = let s = c in
    let a = s.args in
    simp length-set (omega (arith, length-padded a.text.now, ap length c.put_bytes.ensures ∙ put-length a.out.now a.at a.text.now, s.requires))

pub returns : goal.returns
returns c = let a = c.args in
    pad-both a.out.now c.put_bytes.new.out a.text.now a.at c.put_bytes.ensures
