-- Where the real is there, it is stored, and else nothing is.
use mathlib.Core.Path.{ap, ◌∙◌}
use native.Mathlib.Omega.{arith}
use Rattle.buffers.specs.Put.{put}
use Rattle.cgx_write_stores.proofs.Srefs.{real-on, real-off}
use Rattle.cgx_write_stores.proofs.put_real_if.Goals as goal

pub put_real-requires : goal.put_real-requires
put_real-requires c = let h = c.requires c.if-set.true in omega arith

pub returns-then-set : goal.returns-then-set
returns-then-set c = let a = c.args in
    c.put_real.ensures ∙ ap (put a.buf.now a.at) (real-on a.set a.real.now c.if-set.true)

pub returns-else-set : goal.returns-else-set
returns-else-set c = let a = c.args in real-off a.set a.real.now a.buf.now a.at c.if-set.false
