-- All boxes, four numbers each.
use mathlib.Core.Path.{ap, ◌∙◌}
use mathlib.Core.Bool.{Bool, true, ◌&&◌}
use mathlib.Core.List.{List}
use lib.IntN.{ℤ}
use Rattle.std.specs.List.{fold}
use Rattle.cgx_spec.specs.Fields.{in_order}
use Rattle.cgx_write_plans.proofs.Ordered.{chunks-order}
use Rattle.cgx_write_plans.proofs.boxes_good.Goals as goal

pub returns : goal.returns
returns c = c.all_good.ensures ∙ ap (fold (λ (a : Bool) (b : List ℤ). a && in_order b) true) c.as_chunks.ensures.front ∙ chunks-order c.args.sides.now c.requires
