-- By the number of the opening.
use mathlib.Core.Path.{sym, ◌∙◌}
use Rattle.std.proofs.lemmas.Result.{err_from_is_err_and}
use Rattle.cgx_format_headers.proofs.Openings.{opening-good}
use Rattle.cgx_read_walk.proofs.Answers.{start-refused, start-good}
use Rattle.cgx_read_walk.proofs.start.Goals as goal

pub returns-in_err-check_opening : goal.returns-in_err-check_opening
returns-in_err-check_opening c = let p = err_from_is_err_and c.from_residual.result c.from_residual.ensures.1 in
    rw (p.1, p.2) (start-refused c.args.file.now (sym c.in_err-check_opening.was ∙ c.check_opening.ensures))

pub returns : goal.returns
returns c = start-good c.args.file.now (opening-good c.args.file.now (sym c.in_ok-check_opening.was ∙ c.check_opening.ensures)) c.start.ensures
