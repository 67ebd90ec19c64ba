-- 0 is none.
use mathlib.Core.Path.{◌∙◌}
use lib.Dec.{eqb}
use Rattle.cgx_format_cursor.specs.Cursors.{offset_in}
use Rattle.cgx_read_views.proofs.Views.{unless}
use Rattle.cgx_read_views.proofs.offset_of.Goals as goal

pub returns : goal.returns
unfolding offset_in
returns c = c.then_some.ensures ∙ unless (eqb c.args.n 0) c.args.n
