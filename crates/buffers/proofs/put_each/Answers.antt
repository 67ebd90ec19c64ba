-- `buffers::put_each` is right: at each turn, storing what is left of the source gives what the whole store is to give. Assumes nothing.
use mathlib.Core.Path.{sym, ◌∙◌}
use native.Mathlib.Omega.{arith}
use Rattle.buffers.proofs.Puts.{put_copy, put-end}
use Rattle.buffers.proofs.put_each.Goals as goal

pub loop-i-preserved : goal.loop-i-preserved
loop-i-preserved c = put_copy c.loop-i.out c.args.src.now c.args.at c.loop-i.i (omega arith) ∙ c.loop-i.invariant

pub returns : goal.returns
returns c = sym (put-end c.loop-i.out c.args.src.now c.args.at c.loop-i.i (omega arith) (omega arith)) ∙ c.loop-i.invariant
