-- Term by term.
use native.Mathlib.Omega.{arith}
use mathlib.Core.Path.{◌≡◌, ap, ◌∙◌}
use Rattle.std.proofs.Common.{rules}
use mir.Syntax.{w16}
use Rattle.numbers.proofs.Signed.{back}
use Rattle.cgx_c_views.specs.ViewWords.{short_bits, date_word}
use Rattle.cgx_c_views.proofs.date_word.Goals as goal

pub returns : goal.returns
unfolding date_word
returns c = let y : c.short_word.result ≡ short_bits c.args.d.year = c.short_word.ensures.value ∙ ap short_bits (back w16 (search rules)) in omega arith
