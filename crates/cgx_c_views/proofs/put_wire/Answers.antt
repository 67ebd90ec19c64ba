-- Its fields in turn.
use mathlib.Core.Path.{ap, ◌∙◌}
use Rattle.std.proofs.Common.{rules}
use mir.Syntax.{w32}
use Rattle.numbers.proofs.Signed.{back}
use Rattle.cgx_c_views.specs.ViewWords.{long_bits, list_words}
use Rattle.cgx_c_views.proofs.Stored.{one_more}
use Rattle.cgx_c_views.proofs.put_wire.Goals as goal

pub returns : goal.returns
returns c = let a = c.args in one_more a.w.now (long_bits a.x.width) (list_words a.x.points) _ _ (c.long_word.ensures.value ∙ ap long_bits (back w32 (search rules))) c.put_list.ensures
