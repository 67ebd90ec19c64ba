-- Each outcome is one law of the rules of a BOX.
use mathlib.Core.Path.{sym, ◌∙◌}
use mathlib.Core.Bool.{true, false}
use Rattle.cgx_write_plans.proofs.Faults.{box-uneven, box-few, box-is}
use Rattle.cgx_write_plans.proofs.box_fault.Goals as goal

pub returns-then-sides-ne0 : goal.returns-then-sides-ne0
returns-then-sides-ne0 c = box-uneven c.args.sides.now c.if-sides-ne0.true

pub returns-then-sides : goal.returns-then-sides
returns-then-sides c = box-few c.args.sides.now c.if-sides.true

pub returns-then-boxes_good : goal.returns-then-boxes_good
returns-then-boxes_good c = box-is c.args.sides.now true c.if-sides-ne0.false c.if-sides.false (sym c.boxes_good.ensures ∙ c.if-boxes_good.true)

pub returns-else-boxes_good : goal.returns-else-boxes_good
returns-else-boxes_good c = box-is c.args.sides.now false c.if-sides-ne0.false c.if-sides.false (sym c.boxes_good.ensures ∙ c.if-boxes_good.false)
