-- `cgx_read_fields::text_of` is right: each field is read where the layout has it. Assumes nothing.
use mathlib.Core.Path.{◌∙◌}
use mir.Syntax.{w32}
use Rattle.numbers.proofs.Signed.{back}
use Rattle.cgx_read_fields.proofs.Labels.{text-by}
use Rattle.cgx_read_fields.proofs.text_of.Goals as goal

pub returns : goal.returns
returns c = let s = c in
    text-by s.args.f.now s.args.at s.args.size s.requires _ _ _ c.point_at-anchor.ensures (back w32 c.long_at-width.type_inv ∙ c.long_at-width.ensures) c.text_at-label.ensures
