-- One long, compared with 1.
use mathlib.Core.Path.{sym, ap, ◌∙◌}
use native.Mathlib.Omega.{arith}
use lib.IntN.{pos}
use lib.Signed.{le_z}
use mir.Syntax.{w32}
use Rattle.numbers.proofs.Signed.{back}
use Rattle.cgx_format_fields.proofs.Boxes.{count-is}
use Rattle.cgx_format_fields.proofs.count_good.Goals as goal

pub returns : goal.returns
returns c = ap (le_z (pos 1)) (back w32 c.long_at.type_inv ∙ c.long_at.ensures) ∙ sym (count-is c.args.b.now (omega arith))
