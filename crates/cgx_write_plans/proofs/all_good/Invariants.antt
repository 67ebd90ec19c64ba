-- The invariant: what is left, folded onto what is found so far, is the whole.
use mathlib.Core.Path.{◌≡◌}
use mathlib.Core.Bool.{Bool, true, ◌&&◌}
use mathlib.Core.List.{List}
use lib.IntN.{ℤ}
use lib.ListN.{drop}
use Rattle.std.specs.List.{fold}
use Rattle.cgx_spec.specs.Fields.{in_order}
use Rattle.cgx_write_plans.proofs.all_good.Given as goal

abbrev pub invariant-loop-b : goal.invariant-loop-b
invariant-loop-b l = fold (λ (a : Bool) (b : List ℤ). a && in_order b) l.all (drop l.b-index l.boxes) ≡ fold (λ (a : Bool) (b : List ℤ). a && in_order b) true l.boxes
