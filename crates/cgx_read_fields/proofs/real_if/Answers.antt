-- `cgx_read_fields::real_if` is right: a real that is there is given, and else missing. Assumes nothing.
use mathlib.Core.Path.{refl}
use lib.ListN.{take, drop}
use Rattle.cgx_format_kinds.specs.Meant.{optional_value}
use Rattle.cgx_read_fields.specs.Views.{real_if}
use Rattle.cgx_read_fields.proofs.Parts.{real-value}
use Rattle.cgx_read_fields.proofs.real_if.Goals as goal

pub returns-then-there : goal.returns-then-there
unfolding optional_value real_if
returns-then-there c = let s = c.args in
    (rw c.if-there.true (real-value (take 8 (drop s.at s.f.now)) c.real_at.ensures), c.real_at.ensures)

pub returns-else-there : goal.returns-else-there
unfolding optional_value real_if
returns-else-there c = (rw c.if-there.false refl, tt)
