-- `buffers::put_longs` is right: at each turn, storing what is left of the longs gives what the whole store is to give. Assumes nothing.
use mathlib.Core.Path.{sym, ap, ◌∙◌}
use mathlib.Core.List.{List}
use Prim.Native.Nat.{ℕ, ◌+◌, ◌*◌}
use native.Mathlib.Omega.{arith}
use lib.IntN.{ℤ, pos}
use lib.ListN.{drop, get_or}
use mir.Syntax.{w32}
use Rattle.std.proofs.Common.{rules}
use Rattle.cgx_spec.specs.Numbers.{long_bytes}
use Rattle.numbers.proofs.Signed.{back}
use Rattle.buffers.specs.Put.{put, longs_bytes}
use Rattle.buffers.proofs.Puts.{put-long-next, put-longs-end}
use Rattle.buffers.proofs.put_longs.Goals as goal

pub loop-i-preserved : goal.loop-i-preserved
loop-i-preserved c = let l = c.loop-i in
    let a = c.args in
    let z = get_or a.ns.now l.i (pos 0) in
    let e = c.put_long.ensures ∙ ap (λ (x : ℤ). put l.out (a.at + 4 * l.i) (long_bytes x)) (back w32 {z = z} (search rules)) in
    ap (λ (x : List ℕ). put x (a.at + 4 * (l.i + 1)) (longs_bytes (drop (l.i + 1) a.ns.now))) e
    ∙ put-long-next l.out a.ns.now a.at l.i (pos 0) (omega arith)
    ∙ l.invariant

pub returns : goal.returns
returns c = sym (put-longs-end c.loop-i.out c.args.ns.now (c.args.at + 4 * c.loop-i.i) c.loop-i.i (omega arith) (omega arith)) ∙ c.loop-i.invariant
