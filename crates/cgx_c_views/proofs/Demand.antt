-- What is proved of the words of a view, from the law that they fit, the law of stores, and where the record has its reals. Assumes nothing.
use Rattle.std.specs.Prelude.{None, Option, Some}
use mathlib.Core.List.{List, ◌++◌}
use mathlib.Core.Path.{◌≡◌, refl, ap, ◌∙◌}
use Prim.Native.Nat.{ℕ, ◌+◌}
use native.Mathlib.Omega.{arith}
use lib.ListN.{length, take, drop}
use lib.Seq.{take_at, drop_at}
use Rattle.cgx_format_kinds.specs.declared.Fields.{Fields}
use Rattle.cgx_format_kinds.specs.declared.Fields.TheVariants as fields
use Rattle.cgx_format_kinds.specs.declared.View.{View}
use Rattle.buffers.specs.Put.{put}
use Rattle.buffers.proofs.Puts.{put_is}
use Rattle.cgx_read_fields.specs.Views.{FieldsAt, AnswerAt}
use Rattle.cgx_c_views.specs.ViewWords.{optional_word, field_words, head_words, view_words}
use Rattle.cgx_c_views.specs.Demand.{OptionalHeld, RealsHeld, ViewWordsDemand}
use Rattle.cgx_c_views.proofs.Stored.{view-fits}
use Rattle.cgx_spec.specs.declared.Real.{Real}

-- a store from the first word on
at_first : (w f : List ℕ) (v : View) → length w ≡ 14 → put w 0 (view_words f v) ≡ view_words f v ++ drop (length (view_words f v)) w
at_first w f v e =
    let q : 0 + length (view_words f v) ≡ length (view_words f v) = omega arith in
    put_is w 0 (view_words f v) (omega (arith, view-fits f v)) ∙ ap (λ (n : ℕ). view_words f v ++ drop n w) q

stored : (w f : List ℕ) (v : View) → length w ≡ 14 → take (length (view_words f v)) (put w 0 (view_words f v)) ≡ view_words f v
stored w f v e = ap (take (length (view_words f v))) (at_first w f v e) ∙ take_at (view_words f v) (drop (length (view_words f v)) w) (length (view_words f v)) refl

others : (w f : List ℕ) (v : View) → length w ≡ 14 → drop (length (view_words f v)) (put w 0 (view_words f v)) ≡ drop (length (view_words f v)) w
others w f v e = ap (drop (length (view_words f v))) (at_first w f v e) ∙ drop_at (view_words f v) (drop (length (view_words f v)) w) (length (view_words f v)) refl

-- ---- reals

optional-held : (f : List ℕ) (b : ℕ) (o : Option Real) → AnswerAt f b o → OptionalHeld (optional_word f b o) o
unfolding optional_word
optional-held f b None h = refl
optional-held f b (Some r) h = h

reals : (f : List ℕ) (v : View) (e : ℕ) → FieldsAt v.flags f v.at e v.fields → RealsHeld (view_words f v) v.fields
unfolding FieldsAt view_words field_words head_words
reals f v e h = go v.fields h
  where
    go : (r : Fields) → FieldsAt v.flags f v.at e r → RealsHeld (head_words v.kind v.flags v.at v.cell v.layer v.run ++ field_words f v.flags v.at r) r
    go (fields.Library l) t = (t.0, t.1)
    go (fields.Struct s) t = tt
    go (fields.Cprpty p) t = tt
    go (fields.Property p) t = tt
    go (fields.Layer l) t = tt
    go (fields.Box b) t = tt
    go (fields.Poly p) t = tt
    go (fields.Wire w) t = tt
    go (fields.Text x) t = tt
    go (fields.Sref s) t = (optional-held f _ s.angle t.0, optional-held f _ s.magnif t.1)
    go fields.Endlib t = tt

pub view-words-demand : ViewWordsDemand
view-words-demand = record { fits = view-fits; stored = stored; others = others; reals = reals }
