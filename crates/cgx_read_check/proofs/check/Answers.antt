-- The verdict of what was measured (`Turns`).
use mathlib.Core.Path.{◌∙◌}
use Rattle.std.proofs.lemmas.Result.{err_from_is_err_and}
use Rattle.cgx_read_check.proofs.Turns.{verdict-is}
use Rattle.cgx_read_check.proofs.check.Goals as goal

pub returns-in_err-measure-clause-value : goal.returns-in_err-measure-clause-value
returns-in_err-measure-clause-value c = let p = err_from_is_err_and c.from_residual.result c.from_residual.ensures.1 in rw (p.1, p.2) (verdict-is c.args.file.now c.measure.ensures c.in_err-measure.was)

pub returns-clause-value : goal.returns-clause-value
returns-clause-value c = verdict-is c.args.file.now c.measure.ensures c.in_ok-measure.was
