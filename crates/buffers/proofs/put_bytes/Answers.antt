-- `buffers::put_bytes` is right: at each turn the words before this one are stored, and the last word covers what is left. Assumes nothing.
use mathlib.Core.Path.{◌∙◌}
use Prim.Native.Nat.{◌-◌}
use native.Mathlib.Omega.{arith}
use lib.ListN.{length}
use Rattle.std.proofs.Common.{rules}
use Rattle.buffers.proofs.Words.{ahead-first, ahead-next, ahead-last}
use Rattle.buffers.proofs.put_bytes.Goals as goal

pub loop-k-init : goal.loop-k-init
loop-k-init c = (search rules, ahead-first c.args.out.now c.args.src.now c.args.at (length c.args.src.now - 1) (search rules) (search rules) (omega arith))

pub loop-k-preserved : goal.loop-k-preserved
loop-k-preserved c = let a = c.args in
    let it = c.loop-k.k-iterator in
    let s = c.in-Some.ensures.steps in (
      s.0.0 ∙ c.loop-k.invariant.0,
      ahead-next a.out.now a.src.now a.at it.count it.iter.rest.now c.loop-k.out c.in-Some.word.now c.next.new.self.iter.rest.now
          (search rules) c.loop-k.invariant.1 s.0.1.0 (s.0.1.1 ∙ c.loop-k.invariant.0) s.1 s.2 c.word_of.ensures c.put_word.ensures,
    )

pub returns : goal.returns
returns c = let a = c.args in
    let it = c.loop-k.k-iterator in
    c.put_word-2.ensures
    ∙ ahead-last a.out.now a.src.now a.at it.count it.iter.rest.now c.loop-k.out
    (search rules) c.loop-k.invariant.1 (omega (arith, c.in-None.ensures.steps.0.1.0, c.loop-k.invariant.0)) (omega arith) c.word_of-2.ensures
