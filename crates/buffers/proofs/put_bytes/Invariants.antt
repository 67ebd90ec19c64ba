-- `buffers::put_bytes` is right: at each turn the words before this one are stored, and the last word covers what is left. Assumes nothing.
use mathlib.Core.Path.{◌≡◌}
use Rattle.buffers.proofs.Words.{Ahead}
use Rattle.buffers.proofs.put_bytes.Given as goal

abbrev pub invariant-loop-k : goal.invariant-loop-k
invariant-loop-k l = (l.k-iterator.iter.size ≡ 8) × Ahead l.initial.out l.src l.at l.k-iterator.count l.k-iterator.iter.rest.now l.out
