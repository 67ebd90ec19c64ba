-- The file's verdict first, then its cell, then the hull of its points (`Cells`).
use mathlib.Core.Path.{sym, ◌∙◌}
use Rattle.std.proofs.lemmas.Result.{err_from_is_err_and}
use Rattle.cgx_spec.specs.Files.{Accepted}
use Rattle.cgx_ask_extent.proofs.Cells.{extent-refused, extent-none, begins, extent-of}
use Rattle.cgx_ask_extent.proofs.extent.Goals as goal

pub cell_start-requires : goal.cell_start-requires
unfolding Accepted
cell_start-requires c = sym (sym c.in_ok-check.was ∙ c.check.ensures.value)

pub hull_of-requires : goal.hull_of-requires
hull_of-requires c = let b = begins c.args.file.now c.args.k (sym c.in_ok-check.was ∙ c.check.ensures.value) c.cell_start.ensures c.in-Some.is in record { records = b.records; rest = b.rest }

pub returns-in_err-check : goal.returns-in_err-check
returns-in_err-check c = let p = err_from_is_err_and c.from_residual.result c.from_residual.ensures.1 in rw (p.1, p.2) (extent-refused c.args.file.now c.args.k (sym c.in_err-check.was ∙ c.check.ensures.value))

pub returns-in-None : goal.returns-in-None
returns-in-None c = rw c.nowhere.ensures (extent-none c.args.file.now c.args.k (sym c.in_ok-check.was ∙ c.check.ensures.value) c.cell_start.ensures c.in-None.is)

pub returns-in-Some : goal.returns-in-Some
returns-in-Some c = extent-of c.args.file.now c.args.k (sym c.in_ok-check.was ∙ c.check.ensures.value) (begins c.args.file.now c.args.k (sym c.in_ok-check.was ∙ c.check.ensures.value) c.cell_start.ensures c.in-Some.is) c.hull_of.ensures
