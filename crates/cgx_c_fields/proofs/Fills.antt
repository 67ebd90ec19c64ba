-- Fields that are read and stored are those of the record, by the kind that it is. Assumes nothing.
use Rattle.std.specs.Prelude.{None, Option, Some}
use mathlib.Core.Path.{◌≡◌, refl, sym, ap, ◌∙◌, subst}
use mathlib.Core.List.{List, [], ◌∷◌, ◌++◌}
use mathlib.Core.Bool.{Bool, true, false, cond}
use Prim.Native.Nat.{ℕ, ◌+◌, ◌-◌, ◌≤◌}
use native.Mathlib.Omega.{arith}
use lib.ListN.{length, take, drop}
use lib.IntN.{ℤ}
use Rattle.cgx_spec.specs.declared.Kind.{Kind}
use Rattle.cgx_spec.specs.declared.Kind.TheVariants as kinds
use Rattle.cgx_format_kinds.specs.declared.TextSpan.{TextSpan}
use Rattle.cgx_format_kinds.specs.declared.Fields.{Fields}
use Rattle.cgx_format_kinds.specs.declared.Fields.TheVariants as fields
use Rattle.buffers.specs.Put.{put}
use Rattle.buffers.proofs.Puts.{put-nil}
use Rattle.cgx_spec.specs.Numbers.{long_of}
use Rattle.cgx_spec.specs.Fields.{date, string, value, pieces, lengths_fit, keeps}
use Rattle.cgx_spec.specs.Kinds.{layout}
use Rattle.cgx_spec.specs.Records.{Rule, rule, broken}
use Rattle.cgx_spec.specs.Walking.{Held, rec_at}
use Rattle.cgx_format_bodies.specs.Bodies.{body_fault}
use Rattle.cgx_format_kinds.specs.declared.Date.{Date}
use Rattle.cgx_format_kinds.specs.declared.Point.{Point}
use Rattle.cgx_format_kinds.specs.declared.Grid.{Grid}
use Rattle.cgx_format_kinds.specs.Meant.{span_text, date_numbers, optional_value, array_values}
use Rattle.cgx_format_sref.specs.declared.SrefLayout.{SrefLayout}
use Rattle.cgx_format_sref.specs.Layouts.{sref_layout}
use Rattle.cgx_read_fields.specs.Views.{Readable, ReadAt, TextAt, StringAt, word_at, real_at, AnswerAt, real_if, array_if, ArrayIs}
use Rattle.cgx_read_fields.proofs.Parts.{real-value, array-value}
use Rattle.cgx_read_fields.proofs.Ready.{endlib-read}
use Rattle.cgx_read_fields.proofs.Libraries.{library-by}
use Rattle.cgx_read_fields.proofs.Labels.{text-by}
use Rattle.cgx_read_fields.proofs.Srefs.{Room, sref-by}
use Rattle.cgx_c_views.specs.ViewWords.{long_bits, pair_word, point_word, date_word, span_words, array_words, optional_word, field_words}
use Rattle.cgx_c_fields.specs.Fill.{pair_at, Filled, FilledAlike, FilledIf}
use Rattle.cgx_spec.specs.declared.Real.{Real}

module _ {k j : Kind} {fl : ℕ} {f : List ℕ} {at size : ℕ} {w₀ w₁ : List ℕ} (e : k ≡ j) (fs : Fields) where
  pub filled : ReadAt j fl f at size fs → w₁ ≡ put w₀ 6 (field_words f fl at fs) → Filled k fl f at size w₀ w₁
  filled r q = record { fields = fs; read = subst (λ (x : Kind). ReadAt x fl f at size fs) (sym e) r; words = q }

-- those of a kind that is told
pub told-if : {k j : Kind} {fl : ℕ} {f : List ℕ} {at size : ℕ} {r : Option ℕ} {w₀ w₁ : List ℕ} → k ≡ j → FilledIf j fl f at size r w₀ w₁ → FilledIf k fl f at size r w₀ w₁
told-if {fl = fl} {f = f} {at = at} {size = size} {r = r} {w₀ = w₀} {w₁ = w₁} e d = subst (λ (x : Kind). FilledIf x fl f at size r w₀ w₁) (sym e) d

-- ---- a body that is judged

-- a rule that is not the first one broken is kept
rule-kept : (n : ℕ) (b : Bool) (rs : List Rule) → broken (rule n b ∷ rs) ≡ None → (b ≡ true) × (broken rs ≡ None)
unfolding broken
rule-kept n true rs e = (refl, e)
rule-kept n false rs e = absurd (cc)

-- where b, which is judged, is the body of the record
module _ (k : Kind) (fl : ℕ) {f : List ℕ} {at size : ℕ} (h : Held f at size) {b : List ℕ} (q : b ≡ (rec_at f at size).body) {o : Option ℕ} (e : o ≡ body_fault k fl b) where
  fault-is : o ≡ body_fault k fl (rec_at f at size).body
  fault-is = e ∙ ap (body_fault k fl) q

  -- a body that breaks no rule is readable
  pub readable : o ≡ None → Readable k fl f at size
  unfolding body_fault
  readable z =
      let ps = pieces (layout k fl) (rec_at f at size).body in
      let e₈ = rule-kept 8 (lengths_fit ps) _ (sym fault-is ∙ z) in
      let e₁₁ = rule-kept 11 (keeps 11 ps) _ (rule-kept 10 (keeps 10 ps) _ (rule-kept 9 (keeps 9 ps) _ e₈.1).1).1 in
      record { held = h; fits = e₈.0; texts = e₁₁.0 }

  pub filled-if : {w₀ w₁ : List ℕ} → o ≡ None → Filled k fl f at size w₀ w₁ → FilledIf k fl f at size None w₀ w₁
  filled-if z d = record { fault = sym z ∙ fault-is; filled = λ p. d; kept = λ p. absurd (p refl) }

-- a number that is handed on is the number
pub number-on : (w₀ : List ℕ) {w₁ : List ℕ} {x y : ℤ} (s : TextSpan) → x ≡ y → w₁ ≡ put w₀ 6 (long_bits x ∷ span_words s) → w₁ ≡ put w₀ 6 (long_bits y ∷ span_words s)
number-on w₀ s e q = q ∙ ap (λ (z : ℤ). put w₀ 6 (long_bits z ∷ span_words s)) e

-- nothing is stored of an ENDLIB
pub none_filled : (fl : ℕ) (f : List ℕ) (at size : ℕ) (r : Option ℕ) (w : List ℕ) → r ≡ body_fault kinds.Endlib fl (rec_at f at size).body → FilledIf kinds.Endlib fl f at size r w w
unfolding field_words
none_filled fl f at size r w e =
    record { fault = e; filled = λ q. filled refl fields.Endlib (endlib-read fl f at size) (sym (put-nil w 6)); kept = λ q. refl }

-- ---- the two kinds with reals, which are the answers of the words that are stored

pub library-filled : (f : List ℕ) (at size : ℕ) (w₀ w₁ : List ℕ) → StringAt f (at + 36) (size - 36) → (m u : ℕ) (c d : Date) (t : TextSpan)
    → m ≡ word_at f (at + 4) → u ≡ word_at f (at + 12)
    → date_numbers c ≡ value date (take 8 (drop (at + 20) f)) → date_numbers d ≡ value date (take 8 (drop (at + 28) f))
    → (span_text f t ≡ value string (take (size - 36) (drop (at + 36) f))) × TextAt (at + 36) (at + 36 + (size - 36)) t
    → w₁ ≡ put w₀ 6 (m ∷ u ∷ date_word c ∷ date_word d ∷ span_words t)
    → FilledAlike kinds.Library f at size w₀ w₁
unfolding field_words
library-filled f at size w₀ w₁ s m u c d t em eu ec ed et q fl =
    filled refl (fields.Library (record { munit = real_at f (at + 4); uunit = real_at f (at + 12); created = c; modified = d; name = t }))
    (library-by f at size s (real_at f (at + 4)) (real_at f (at + 12)) c d t refl refl ec ed et fl)
    (q ∙ rw (em, eu) refl)

-- a real that may not be there
abbrev optional : Bool → List ℕ → ℕ → Option Real
optional b f at = cond b (Some (real_at f at)) None

optional-read : (b : Bool) (f : List ℕ) (at : ℕ) → (optional_value (optional b f at) ≡ real_if b f at) × AnswerAt f at (optional b f at)
unfolding optional_value real_if
optional-read true f at = (real-value (take 8 (drop at f)) refl, refl)
optional-read false f at = (refl, tt)

optional-is : (b : Bool) (f : List ℕ) (at : ℕ) → cond b (word_at f at) 0 ≡ optional_word f at (optional b f at)
unfolding optional_word
optional-is true f at = refl
optional-is false f at = refl

-- columns, rows and points that may not be there, from byte o of a record on
module _ (f : List ℕ) (at o : ℕ) where
  abbrev array : Bool → Option Grid
  array b =
      cond b
      (Some (record {
        cols = long_of (take 4 (drop (at + o) f));
        rows = long_of (take 4 (drop (at + (o + 4)) f));
        across = record { x = long_of (take 4 (drop (at + (o + 8)) f)); y = long_of (take 4 (drop (at + (o + 8) + 4) f)) };
        up = record { x = long_of (take 4 (drop (at + (o + 16)) f)); y = long_of (take 4 (drop (at + (o + 16) + 4) f)) };
      }))
      None

  array-read : (b : Bool) → (b ≡ true → at + (o + 24) ≤ length f) → ArrayIs b f at o (array b)
  unfolding array_values array_if
  array-read true h = array-value f at o (h refl) refl refl (refl, refl) (refl, refl)
  array-read false h = λ vs. refl

  array-is : (b : Bool) → cond b (pair_at f (at + o)) 0 ∷ cond b (pair_at f (at + (o + 8))) 0 ∷ cond b (pair_at f (at + (o + 16))) 0 ∷ [] ≡ array_words (array b)
  unfolding array_words point_word
  array-is true =
      let q : at + o + 4 ≡ at + (o + 4) = omega arith in
      ap (λ (n : ℕ). pair_word (long_of (take 4 (drop (at + o) f))) (long_of (take 4 (drop n f))) ∷ pair_at f (at + (o + 8)) ∷ pair_at f (at + (o + 16)) ∷ []) q
  array-is false = refl

pub sref-filled : {fl : ℕ} {f : List ℕ} {at size : ℕ} {l : SrefLayout} (w₀ w₁ : List ℕ) → Room fl f at size l → (p a m n x u : ℕ) (t : TextSpan)
    → p ≡ pair_at f (at + 4) → a ≡ cond l.turned (word_at f (at + 12)) 0 → m ≡ cond l.scaled (word_at f (at + l.magnif)) 0
    → n ≡ cond l.repeated (pair_at f (at + l.array)) 0 → x ≡ cond l.repeated (pair_at f (at + (l.array + 8))) 0 → u ≡ cond l.repeated (pair_at f (at + (l.array + 16))) 0
    → (span_text f t ≡ value string (take (size - l.name) (drop (at + l.name) f))) × TextAt (at + l.name) (at + l.name + (size - l.name)) t
    → w₁ ≡ put w₀ 6 (p ∷ a ∷ m ∷ n ∷ x ∷ u ∷ span_words t)
    → Filled kinds.Sref fl f at size w₀ w₁
unfolding field_words point_word
sref-filled {fl} {f} {at} {size} {l} w₀ w₁ h p a m n x u t ep ea em en ex eu et q =
    let angle = optional l.turned f (at + 12) in
    let magnif = optional l.scaled f (at + l.magnif) in
    let d = array f at l.array l.repeated in
    let point : Point = record { x = long_of (take 4 (drop (at + 4) f)); y = long_of (take 4 (drop (at + 4 + 4) f)) } in
    let i = h.name.inside in
    let e = h.name.least in
    let o = h.laid in
    let ma = em ∙ optional-is l.scaled f (at + l.magnif) ∙ ap (λ (y : SrefLayout). optional_word f (at + y.magnif) magnif) h.is in
    let w : n ∷ x ∷ u ∷ [] ≡ array_words d = rw (en, ex, eu) (array-is f at l.array l.repeated) in
    filled refl (fields.Sref (record { at = point; angle = angle; magnif = magnif; array = d; name = t }))
    (sref-by h point angle magnif d t (refl, refl) (optional-read l.turned f (at + 12)) (optional-read l.scaled f (at + l.magnif)) (array-read f at l.array l.repeated (λ y. omega (arith, o.array-in y))) et)
    (q ∙ rw (ep, ea ∙ optional-is l.turned f (at + 12), ma) (ap (λ (ws : List ℕ). put w₀ 6 (pair_at f (at + 4) ∷ optional_word f (at + 12) angle ∷ optional_word f (at + (sref_layout fl).magnif) magnif ∷ ws ++ span_words t)) w))

-- ---- a TEXT

pub text-filled : (f : List ℕ) (at size : ℕ) (w₀ w₁ : List ℕ) → StringAt f (at + 16) (size - 16) → (p : ℕ) (z : ℤ) (t : TextSpan)
    → p ≡ pair_at f (at + 4) → z ≡ long_of (take 4 (drop (at + 12) f))
    → (span_text f t ≡ value string (take (size - 16) (drop (at + 16) f))) × TextAt (at + 16) (at + 16 + (size - 16)) t
    → w₁ ≡ put w₀ 6 (p ∷ long_bits z ∷ span_words t)
    → FilledAlike kinds.Text f at size w₀ w₁
unfolding field_words point_word
text-filled f at size w₀ w₁ s p z t ep ez et q fl =
    let point : Point = record { x = long_of (take 4 (drop (at + 4) f)); y = long_of (take 4 (drop (at + 4 + 4) f)) } in
    filled refl (fields.Text (record { at = point; width = z; label = t })) (text-by f at size s point z t (refl, refl) ez et fl) (q ∙ rw ep refl)
