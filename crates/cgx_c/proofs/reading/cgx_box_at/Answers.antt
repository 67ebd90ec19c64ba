-- What the call answers, as C is told it.
use mathlib.Core.Path.{ap, ◌∙◌}
use Rattle.cgx_format_kinds.specs.declared.ItemList.{ItemList}
use Rattle.cgx_read_lists.specs.Lists.{box_of}
use Rattle.cgx_c_answers.specs.Told.{box_told}
use Rattle.cgx_c.proofs.reading.cgx_box_at.Goals as goal
use Rattle.cgx_format_kinds.specs.declared.Sides.{Sides}
use Rattle.std.specs.Prelude.{Option}

pub returns : goal.returns
returns c = let a = c.args in c.tell_box.ensures ∙ ap (λ (v : Option Sides). box_told v a.sides.now) (c.box_at.ensures ∙ ap (λ (l : ItemList). box_of a.file.now l a.i) c.list_of.ensures)
