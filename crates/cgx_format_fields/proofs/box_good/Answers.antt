-- Where the first of the two comparisons fails it is the answer, and else the second is.
use mathlib.Core.Path.{sym, ap, ◌∙◌}
use mathlib.Core.Bool.{Bool, ◌&&◌}
use lib.Signed.{le_z}
use Rattle.cgx_format_fields.proofs.Boxes.{at_long, box-is}
use Rattle.cgx_format_fields.proofs.box_good.Goals as goal

pub returns-then-side_good : goal.returns-then-side_good
returns-then-side_good c = let b = c.args.b.now in
    c.side_good-then-side_good.ensures ∙ ap (λ (v : Bool). v && le_z (at_long b 4) (at_long b 12)) c.if-side_good.ensures ∙ box-is b c.requires

pub returns-else-side_good : goal.returns-else-side_good
returns-else-side_good c = let b = c.args.b.now in
    c.if-side_good.false ∙ ap (λ (v : Bool). v && le_z (at_long b 4) (at_long b 12)) (sym c.if-side_good.false ∙ c.side_good.ensures) ∙ box-is b c.requires
