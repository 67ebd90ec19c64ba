-- `cgx_read_fields::array_if` is right: columns, rows and points are read one after another. Assumes nothing.
use mathlib.Core.Path.{refl, ◌∙◌}
use mir.Syntax.{w32}
use Rattle.numbers.proofs.Signed.{back}
use Rattle.cgx_format_kinds.specs.Meant.{array_values}
use Rattle.cgx_read_fields.specs.Views.{array_if}
use Rattle.cgx_read_fields.proofs.Parts.{array-value}
use Rattle.cgx_read_fields.proofs.array_if.Goals as goal

pub returns-then-there : goal.returns-then-there
returns-then-there c = let b = c in
    let t = b.if-there.true in
    let s = c in
    rw t
    (array-value s.args.f.now s.args.at s.args.o (s.requires.1 t) (back w32 b.long_at-cols.type_inv ∙ b.long_at-cols.ensures) (back w32 c.long_at-rows.type_inv ∙ c.long_at-rows.ensures) c.point_at-across.ensures c.point_at-up.ensures)

pub returns-else-there : goal.returns-else-there
unfolding array_values array_if
returns-else-there c = λ vs. rw c.if-there.false refl
