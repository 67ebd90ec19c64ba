-- By cases on the name.
use mathlib.Core.Path.{refl, ap₂, ◌∙◌}
use Prim.Native.Nat.{◌+◌, ◌^◌}
use Rattle.std.proofs.Common.{rules}
use mir.Syntax.{w16}
use Rattle.numbers.proofs.Signed.{back}
use Rattle.buffers.specs.Put.{put}
use Rattle.cgx_c_views.specs.ViewWords.{layer_word, layer_words, span_words}
use Rattle.cgx_c_views.proofs.Stored.{one_more}
use Rattle.cgx_c_views.proofs.put_layer.Goals as goal

pub returns-in-None : goal.returns-in-None
unfolding put layer_words
returns-in-None c = let n = c.layer_word-word.ensures.value ∙ ap₂ layer_word (back w16 (search rules)) (back w16 (search rules)) in
    rw c.in-None.is (rw n refl)

pub returns-in-Some : goal.returns-in-Some
unfolding layer_words
returns-in-Some c = let a = c.args in
    let s = c.in-Some.name in
    let n = c.layer_word-word.ensures.value ∙ ap₂ layer_word (back w16 (search rules)) (back w16 (search rules)) in
    rw c.in-Some.is (one_more a.w.now (layer_word a.l.number.0 a.l.datatype.0 + 2 ^ 32) (span_words s) _ _ (rw n refl) c.put_span.ensures)
