-- The left side is up to the right, and the bottom up to the top.
use Rattle.std.proofs.Common.{rules}
use mathlib.Core.Path.{ap₂, ◌∙◌}
use mathlib.Core.Bool.{◌&&◌}
use lib.IntN.{pos}
use lib.ListN.{get_or}
use Rattle.cgx_write_plans.proofs.Ordered.{tested, box-order}
use Rattle.cgx_write_plans.proofs.box_good.Goals as goal

pub returns : goal.returns
returns c = let b = c.args.b.now in
    ap₂ ◌&&◌
    (tested (get_or b 0 (pos 0)) (get_or b 2 (pos 0)) (search rules) (search rules))
    (tested (get_or b 1 (pos 0)) (get_or b 3 (pos 0)) (search rules) (search rules))
    ∙ box-order b c.told-b
