-- What the call answers, as C is told it.
use Rattle.std.specs.Prelude.{Option}
use mathlib.Core.Path.{ap, ◌∙◌}
use Rattle.cgx_format_kinds.specs.declared.ItemList.{ItemList}
use Rattle.cgx_read_lists.specs.Lists.{point_of}
use Rattle.cgx_c_answers.specs.Told.{point_told}
use Rattle.cgx_c.proofs.reading.cgx_point_at.Goals as goal
use Rattle.cgx_format_kinds.specs.declared.Point.{Point}

pub returns : goal.returns
returns c = let a = c.args in c.tell_point.ensures ∙ ap (λ (v : Option Point). point_told v a.point.now) (c.point_at.ensures ∙ ap (λ (l : ItemList). point_of a.file.now l a.i) c.list_of.ensures)
