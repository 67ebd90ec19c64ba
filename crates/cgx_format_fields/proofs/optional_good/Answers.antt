-- Nothing is good, and anything else is a string.
use mathlib.Core.Path.{sym, ◌∙◌}
use borrow.Author.Tests.{eqb-true, eqb-false}
use lib.ListN.{length}
use Rattle.cgx_format_fields.proofs.Strings.{optional-none, optional-some}
use Rattle.cgx_format_fields.proofs.optional_good.Goals as goal

pub returns-then-is_empty : goal.returns-then-is_empty
returns-then-is_empty c = let b = c.args.b.now in
    c.if-is_empty.true ∙ optional-none b (eqb-true (length b) 0 (sym c.is_empty.ensures ∙ c.if-is_empty.true))

pub returns-else-is_empty : goal.returns-else-is_empty
returns-else-is_empty c = let b = c.args.b.now in
    optional-some b (eqb-false (length b) 0 (sym c.is_empty.ensures ∙ c.if-is_empty.false)) c.string_good.ensures
