-- The invariant: what is left of the points widens the rectangle so far to the whole.
use mathlib.Core.Path.{sym, ap, ◌∙◌}
use mathlib.Core.List.{List}
use Prim.Native.Nat.{ℕ}
use native.Mathlib.Omega.{arith}
use lib.ListN.{length-drop, drop}
use lib.Seq.{take_all}
use Rattle.cgx_spec.specs.Numbers.{longs_of}
use Rattle.cgx_ask_extent.specs.Extent.{pairs, wider, widest}
use Rattle.cgx_ask_extent.proofs.Hulls.{point-is, widest-on, widest-done}
use Rattle.cgx_ask_extent.proofs.around.Goals as goal

pub loop-point-init : goal.loop-point-init
loop-point-init c = rw c.into_iter-point-iterator.ensures.into_iter_gives (c.chunks_exact-point-items.ensures.size, ap (λ (l : List ℕ). widest c.args.s (pairs (longs_of l))) (sym (c.chunks_exact-point-items.ensures.rest ∙ take_all _ (drop c.args.from c.args.b.now) (omega (arith, length-drop c.args.from c.args.b.now)))))

pub loop-point-preserved : goal.loop-point-preserved
loop-point-preserved c = let z = c.in-Some.ensures.steps in (z.0 ∙ c.loop-point.invariant.0, widest-on _ c.in-Some.point.now c.next.new.self.rest.now c.loop-point.sides c.loop-point.invariant.1 z.1.0 (z.1.1 ∙ c.loop-point.invariant.0) (c.wider-sides.ensures ∙ ap (wider c.loop-point.sides) (point-is c.long_at-x.type_inv c.long_at-y.type_inv c.long_at-x.ensures c.long_at-y.ensures)))

pub returns : goal.returns
returns c = let z = c.in-None.ensures.steps in widest-done _ c.loop-point.sides c.loop-point.invariant.1 (omega (arith, z.1.0, c.loop-point.invariant.0))
