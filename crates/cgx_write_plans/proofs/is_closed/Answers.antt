-- The first point and the last.
use mathlib.Core.Path.{◌∙◌}
use Rattle.cgx_write_plans.proofs.Polys.{closed_is}
use Rattle.cgx_write_plans.proofs.is_closed.Goals as goal

pub returns : goal.returns
returns c = c.ends_with.ensures.value ∙ closed_is c.args.points.now c.requires
