-- 0 is none.
use mathlib.Core.Path.{◌∙◌}
use lib.Dec.{eqb}
use Rattle.cgx_format_cursor.specs.Cursors.{run_in}
use Rattle.cgx_read_views.proofs.Views.{unless}
use Rattle.cgx_read_views.proofs.run_of.Goals as goal

pub returns : goal.returns
unfolding run_in
returns c = c.then_some.ensures ∙ unless (eqb c.args.count 0) (record { first = c.args.first; count = c.args.count })
