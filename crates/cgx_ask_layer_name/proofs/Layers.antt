-- Whether there is a good LAYER at an offset, test by test; its name; and what is shown for it. Assumes nothing.
use Rattle.std.specs.Prelude.{Err, None, Ok, Option, Result, Some}
use mathlib.Core.Path.{◌≡◌, refl, sym, ap, ◌∙◌, subst}
use Rattle.std.proofs.lemmas.Option.{none-some}
use mathlib.Core.Bool.{Bool, true, false, ◌&&◌, cond}
use mathlib.Core.List.{List, [], ◌∷◌}
use Prim.Native.Nat.{ℕ, zero, suc, ◌+◌, ◌-◌, ◌%◌, ◌≤◌, ◌<◌}
use native.Mathlib.Omega.{arith}
use borrow.Author.Tests.{le-leb, lt-leb, eq-eqb, ne_eqb}
use lib.Dec.{eqb}
use lib.ListN.{length, take, drop, get_or, length-drop}
use lib.Seq.{drop-drop, drop_at, take-add, length-take-le}
use Rattle.cgx_spec.specs.declared.Kind.TheVariants.{Layer}
use Rattle.cgx_spec.specs.Strings.{text_of}
use Rattle.cgx_spec.specs.Fields.{rule_of, optional, width, Value, missing, exactly, numbers, text, value, pieces, lengths_fit, keeps, values}
use Rattle.cgx_spec.specs.Kinds.{kind_of, layout}
use Rattle.cgx_spec.specs.Records.{pieces_of, rule, broken}
use Rattle.cgx_spec.specs.Files.{found, cut}
use Rattle.cgx_spec.specs.Walking.{rec_at}
use Rattle.cgx_format_bodies.specs.Bodies.{body_fault}
use Rattle.cgx_format_headers.specs.declared.Header.{Header}
use Rattle.cgx_format_headers.specs.Headers.{cut_meant, HeaderAt, Heads}
use Rattle.cgx_format_headers.proofs.HeaderLaws.{kind-says, flags-say}
use Rattle.cgx_format_headers.proofs.Heads.{head-3, header-in}
use Rattle.cgx_format_kinds.specs.declared.TextSpan.{TextSpan}
use Rattle.cgx_format_kinds.specs.declared.Layer.{Layer as LayerFields}
use Rattle.cgx_format_kinds.specs.declared.Fields.TheVariants.{Layer as layer_fields}
use Rattle.cgx_format_kinds.specs.Meant.{span_text, name_text, field_values}
use Rattle.cgx_read_fields.specs.Views.{pieces_at, values_at, TextAt, NameAt, FieldsAt, ReadAlike, OptionalAt}
use Rattle.cgx_read_fields.proofs.Ready.{layer-ready}
use Rattle.cgx_ask_layer_name.specs.declared.NameAnswer.{NameAnswer}
use Rattle.cgx_ask_layer_name.specs.declared.NameAnswer.TheVariants.{NoLayer, OfFile, OfSubstitute}
use Rattle.cgx_ask_layer_name.specs.Layers.{kept_layer, cut_layer, good_layer, layer_answer, name_in, named, name_answer_of, name_answer_text, name_answer_ptr, NameAnswerInside, LayerAt, LayerSizeIs, is_layer}
use Rattle.cgx_spec.specs.declared.FileRefusal.{FileRefusal}

-- ---- the rules 8 to 12 of a LAYER: 9, 10 and 12 have nothing to say

abbrev first_of : Bool → Bool → Option ℕ
first_of a d = broken (rule 8 a ∷ rule 9 true ∷ rule 10 true ∷ rule 11 d ∷ rule 12 true ∷ [])

module _ (fl : ℕ) (b : List ℕ) where
  abbrev fit : Bool
  fit = lengths_fit (pieces (layout Layer fl) b)

  abbrev texts : Bool
  texts = keeps 11 (pieces (layout Layer fl) b)

  fault-is : body_fault Layer fl b ≡ first_of fit texts
  unfolding body_fault layout pieces keeps rule_of
  fault-is = refl

no-fault : (a d : Bool) → first_of a d ≡ None → (a ≡ true) × (d ≡ true)
unfolding broken
no-fault true true e = (refl, refl)
no-fault true false e = absurd (none-some _ (sym e))
no-fault false d e = absurd (none-some _ (sym e))

a-fault : (a d : Bool) {n : ℕ} → first_of a d ≡ Some n → (true && a && d) ≡ false
unfolding broken
a-fault true true e = absurd (none-some _ e)
a-fault true false e = refl
a-fault false d e = refl

-- ---- a type that is LAYER's

layer-type : (t : ℕ) → is_layer (kind_of t) ≡ eqb t 4
unfolding kind_of
layer-type zero = refl
layer-type (suc zero) = refl
layer-type (suc (suc zero)) = refl
layer-type (suc (suc (suc zero))) = refl
layer-type (suc (suc (suc (suc zero)))) = refl
layer-type (suc (suc (suc (suc (suc zero))))) = refl
layer-type (suc (suc (suc (suc (suc (suc zero)))))) = refl
layer-type (suc (suc (suc (suc (suc (suc (suc zero))))))) = refl
layer-type (suc (suc (suc (suc (suc (suc (suc (suc zero)))))))) = refl
layer-type (suc (suc (suc (suc (suc (suc (suc (suc (suc zero))))))))) = refl
layer-type (suc (suc (suc (suc (suc (suc (suc (suc (suc (suc zero)))))))))) = refl
layer-type (suc (suc (suc (suc (suc (suc (suc (suc (suc (suc (suc t))))))))))) = sym (ne_eqb (suc (suc (suc (suc (suc (suc (suc (suc (suc (suc (suc t))))))))))) 4 (λ z. omega arith))

-- ---- a good LAYER, test by test

abbrev tests : Bool → Bool → Bool → Bool
tests a b c = a && b && c

module _ (f : List ℕ) (at : ℕ) where
  abbrev cut-good : Bool
  cut-good = cut_layer (cut (drop at f))

  pub low : at < 4 → LayerSizeIs f at None
  unfolding LayerSizeIs good_layer
  low h = ap (λ (x : Bool). tests x (eqb (at % 2) 0) cut-good) (lt-leb 4 at h)

  module _ (h : 4 ≤ at) where
    from-4 : good_layer f at ≡ tests true (eqb (at % 2) 0) cut-good
    unfolding good_layer
    from-4 = ap (λ (x : Bool). tests x (eqb (at % 2) 0) cut-good) (le-leb 4 at h)

    pub odd : at % 2 ≡ 1 → LayerSizeIs f at None
    unfolding LayerSizeIs
    odd q = from-4 ∙ ap (λ (x : Bool). tests true x cut-good) (ne_eqb (at % 2) 0 (λ z. omega arith))

    module _ (e : at % 2 ≡ 1 → ⊥) where
      even : good_layer f at ≡ cut-good
      even = from-4 ∙ ap (λ (x : Bool). tests true x cut-good) (eq-eqb (at % 2) 0 (omega arith))

      pub beyond : length f < at → LayerSizeIs f at None
      unfolding LayerSizeIs cut_meant cut_layer
      beyond l = even ∙ ap cut_layer (head-3 f at (omega arith)).cuts

      module _ (hd : Result Header FileRefusal) (d : Heads f at hd) where
        pub no_record : {k : FileRefusal} → hd ≡ Err k → LayerSizeIs f at None
        unfolding LayerSizeIs cut_meant cut_layer
        no_record q = even ∙ ap cut_layer (d.cuts ∙ ap (cut_meant f at) q)

        module _ {r : Header} (q : hd ≡ Ok r) where
          abbrev n : ℕ
          n = r.size

          abbrev body : List ℕ
          body = take (n - 4) (drop (at + 4) f)

          cut-is : cut (drop at f) ≡ found (rec_at f at n) (drop (at + n) f)
          unfolding cut_meant
          cut-is = d.cuts ∙ ap (cut_meant f at) q

          by-record : good_layer f at ≡ tests (eqb (get_or f (at + 2) 0) 4) (fit (get_or f (at + 3) 0) body) (texts (get_or f (at + 3) 0) body)
          unfolding cut_layer kept_layer rec_at pieces_of
          by-record = even ∙ ap cut_layer cut-is

          header : HeaderAt f at r
          header = header-in f at d q

          -- by the kind of the header
          type-is : {v : Bool} → v ≡ is_layer r.kind → eqb (get_or f (at + 2) 0) 4 ≡ v
          type-is w = sym (w ∙ ap is_layer (kind-says f at header.read) ∙ layer-type (get_or f (at + 2) 0))

          pub other-type : {v : Bool} → v ≡ is_layer r.kind → v ≡ false → LayerSizeIs f at None
          unfolding LayerSizeIs
          other-type w t =
              by-record ∙ ap (λ (x : Bool). tests x (fit (get_or f (at + 3) 0) body) (texts (get_or f (at + 3) 0) body)) (type-is w ∙ t)

          module _ {v : Bool} (w : v ≡ is_layer r.kind) (t : v ≡ true) {k : Option ℕ} (z : k ≡ body_fault Layer r.flags (take (at + n - (at + 4)) (drop (at + 4) f))) where
            fault : k ≡ first_of (fit (get_or f (at + 3) 0) body) (texts (get_or f (at + 3) 0) body)
            fault =
                let e : at + n - (at + 4) ≡ n - 4 = omega arith in
                z ∙ ap (λ (m : ℕ). body_fault Layer r.flags (take m (drop (at + 4) f))) e
                ∙ ap (λ (m : ℕ). body_fault Layer m body) (flags-say f at header.read)
                ∙ fault-is (get_or f (at + 3) 0) body

            typed : good_layer f at ≡ tests true (fit (get_or f (at + 3) 0) body) (texts (get_or f (at + 3) 0) body)
            typed = by-record ∙ ap (λ (x : Bool). tests x (fit (get_or f (at + 3) 0) body) (texts (get_or f (at + 3) 0) body)) (type-is w ∙ t)

            pub faulty : {m : ℕ} → k ≡ Some m → LayerSizeIs f at None
            unfolding LayerSizeIs
            faulty y = typed ∙ a-fault (fit (get_or f (at + 3) 0) body) (texts (get_or f (at + 3) 0) body) (sym fault ∙ y)

            pub present-good : k ≡ None → LayerSizeIs f at (Some n)
            unfolding rec_at LayerSizeIs
            present-good y =
                let fl = get_or f (at + 3) 0 in
                let g = no-fault (fit fl body) (texts fl body) (sym fault ∙ y) in
                let i = header.held in
                let good : good_layer f at ≡ true = typed ∙ ap (λ (x : Bool). tests true x (texts fl body)) g.0 ∙ ap (λ (x : Bool). tests true true x) g.1 in
                record { readable = record { held = i; fits = g.0; texts = g.1 }; is = cut-is; kept = good }

-- ---- no size, and any

module _ (f : List ℕ) (at : ℕ) {o : Option ℕ} (s : LayerSizeIs f at o) where
  none-there : o ≡ None → good_layer f at ≡ false
  unfolding LayerSizeIs
  none-there e = subst (LayerSizeIs f at) e s

  pub one-there : {n : ℕ} → o ≡ Some n → LayerAt f at n
  unfolding LayerSizeIs
  one-there e = subst (LayerSizeIs f at) e s

  pub answer-16 : o ≡ None → Err (record { number = 16; at = None }) ≡ layer_answer f at
  unfolding layer_answer
  answer-16 e = sym (ap (λ (x : Bool). cond x (Ok tt) (Err (record { number = 16; at = None }))) (none-there e))

  pub answer-0 : {n : ℕ} → o ≡ Some n → Ok tt ≡ layer_answer f at
  unfolding layer_answer
  answer-0 h = sym (ap (λ (x : Bool). cond x (Ok tt) (Err (record { number = 16; at = None }))) (one-there h).kept)

  pub none-shown : o ≡ None → (NoLayer ≡ name_answer_of f at) × NameAnswerInside f NoLayer
  unfolding name_answer_of NameAnswerInside
  none-shown e = (sym (ap (λ (x : Bool). cond x (named (at + 8) (length (name_in (cut (drop at f))))) NoLayer) (none-there e)), tt)

-- ---- its name

drop-take : (m n : ℕ) (l : List ℕ) → m ≤ length l → drop m (take (m + n) l) ≡ take n (drop m l)
drop-take m n l h = ap (drop m) (take-add m n l) ∙ drop_at (take m l) (take n (drop m l)) m (length-take-le m l h)

-- the length of a text that is read
length_in : Value → ℕ
length_in missing = 0
length_in (exactly z) = 0
length_in (numbers zs) = 0
length_in (text t) = length t

length-in : (b : List ℕ) → length_in (value optional b) ≡ length (text_of b)
unfolding length_in value text_of
length-in [] = refl
length-in (x ∷ b) = refl

module _ (f : List ℕ) (at n : ℕ) (a : LayerAt f at n) where
  pub layer-room : (8 ≤ n) × (at + n ≤ length f)
  layer-room = ((layer-ready a.readable).0, a.readable.held.inside)

  pub layer-named : OptionalAt f (at + 8) (n - 8)
  layer-named = (layer-ready a.readable).1

  name-is : name_in (cut (drop at f)) ≡ text_of (take (n - 8) (drop (at + 8) f))
  unfolding name_in rec_at
  name-is =
      let r = layer-room in
      let e : n - 4 ≡ 4 + (n - 8) = omega arith in
      let z : at + 4 + 4 ≡ at + 8 = omega arith in
      ap name_in a.is
      ∙ ap text_of
      (ap (λ (k : ℕ). drop 4 (take k (drop (at + 4) f))) e ∙ drop-take 4 (n - 8) (drop (at + 4) f) (omega (arith, length-drop (at + 4) f))
      ∙ ap (take (n - 8)) (drop-drop 4 (at + 4) f ∙ ap (λ (k : ℕ). drop k f) z))

  module _ {len : ℕ} (e : (len ≡ length (text_of (take (n - 8) (drop (at + 8) f)))) × (len ≤ n - 8)) where
    shown-is : name_answer_of f at ≡ named (at + 8) len
    unfolding name_answer_of
    shown-is =
        ap (λ (x : Bool). cond x (named (at + 8) (length (name_in (cut (drop at f))))) NoLayer) a.kept
        ∙ ap (λ (t : List ℕ). named (at + 8) (length t)) name-is
        ∙ ap (named (at + 8)) (sym e.0)

    empty-shown : len ≡ 0 → (OfSubstitute ≡ name_answer_of f at) × NameAnswerInside f OfSubstitute
    unfolding named NameAnswerInside
    empty-shown z = (sym (shown-is ∙ ap (named (at + 8)) z), tt)

    name-shown : {to : ℕ} → to ≡ at + 8 → (len ≡ 0 → ⊥) → (OfFile to len ≡ name_answer_of f at) × NameAnswerInside f (OfFile to len)
    unfolding named NameAnswerInside
    name-shown w z = (sym (shown-is ∙ go len z ∙ ap (λ (k : ℕ). OfFile k len) (sym w)), let r = layer-room in let l = e.1 in omega arith)
      where
        go : (k : ℕ) → (k ≡ 0 → ⊥) → named (at + 8) k ≡ OfFile (at + 8) k
        go zero y = absurd (y refl)
        go (suc k) y = refl

  -- the fields that are read of it
  module _ {l : LayerFields} (r : ReadAlike Layer f at n (layer_fields l)) where
    third : List Value → Value
    third [] = missing
    third (x ∷ []) = missing
    third (x ∷ y ∷ []) = missing
    third (x ∷ y ∷ z ∷ vs) = z

    name-value : name_text f l.name ≡ value optional (take (n - 8) (drop (at + 8) f))
    unfolding field_values values_at pieces_at layout width values third
    name-value = ap third (r 0).meant

    name-length : length_in (name_text f l.name) ≡ length (text_of (take (n - 8) (drop (at + 8) f)))
    name-length = ap length_in name-value ∙ length-in (take (n - 8) (drop (at + 8) f))

    absent-name : l.name ≡ None → (0 ≡ length (text_of (take (n - 8) (drop (at + 8) f)))) × (0 ≤ n - 8)
    unfolding name_text length_in
    absent-name q = (ap (λ (x : Option TextSpan). length_in (name_text f x)) (sym q) ∙ name-length, omega arith)

    present-name : {s : TextSpan} → l.name ≡ Some s → (s.at ≡ at + 8) × (s.len ≡ length (text_of (take (n - 8) (drop (at + 8) f)))) × (s.len ≤ n - 8)
    unfolding name_text span_text length_in FieldsAt
    present-name {s} q =
        let w : TextAt (at + 8) (at + n) s = subst (NameAt (at + 8) (at + n)) q (r 0).located in
        let x = w.0 in
        let y = w.1 in
        let z = layer-room in
        let k : length (take s.len (drop s.at f)) ≡ s.len = length-take-le s.len (drop s.at f) (omega (arith, length-drop s.at f)) in
        (x, sym k ∙ ap (λ (v : Option TextSpan). length_in (name_text f v)) (sym q) ∙ name-length, omega arith)

    pub absent-shown : l.name ≡ None → (OfSubstitute ≡ name_answer_of f at) × NameAnswerInside f OfSubstitute
    absent-shown q = empty-shown (absent-name q) refl

    pub empty-name-shown : {s : TextSpan} → l.name ≡ Some s → s.len ≡ 0 → (OfSubstitute ≡ name_answer_of f at) × NameAnswerInside f OfSubstitute
    empty-name-shown q z = empty-shown ((present-name q).1, (present-name q).2) z

    pub present-shown : {s : TextSpan} → l.name ≡ Some s → (s.len ≡ 0 → ⊥) → (OfFile s.at s.len ≡ name_answer_of f at) × NameAnswerInside f (OfFile s.at s.len)
    present-shown q z = name-shown ((present-name q).1, (present-name q).2) (present-name q).0 z

-- ---- the part that is shown

pub in-file : (f : List ℕ) (r : NameAnswer) → NameAnswerInside f r → {at len : ℕ} → r ≡ OfFile at len → at + len ≤ length f
unfolding NameAnswerInside
in-file f r i q = subst (NameAnswerInside f) q i

-- s is what is shown; its bytes as code cuts them, and its pointer
module _ (f t : List ℕ) (p o : ℕ × ℕ) {r s : NameAnswer} (e : r ≡ s) where
  pub of_none : r ≡ NoLayer → (take (0 - 0) (drop 0 t) ≡ name_answer_text f t s) × (◌≡◌ {A = ℕ × ℕ} (o.0, 0 + o.1) (name_answer_ptr p o s))
  unfolding name_answer_text name_answer_ptr
  of_none q =
      let w : 0 + o.1 ≡ o.1 = omega arith in
      let y = sym (sym e ∙ q) in (ap (name_answer_text f t) y, ap (λ (k : ℕ). (o.0, k)) w ∙ ap (name_answer_ptr p o) y)

  pub of-file : {at len : ℕ} → r ≡ OfFile at len → (take (at + len - at) (drop at f) ≡ name_answer_text f t s) × (◌≡◌ {A = ℕ × ℕ} (p.0, at + p.1) (name_answer_ptr p o s))
  unfolding name_answer_text name_answer_ptr
  of-file {at} {len} q =
      let z : at + len - at ≡ len = omega arith in
      let w : at + p.1 ≡ p.1 + at = omega arith in
      let y = sym (sym e ∙ q) in (
        ap (λ (k : ℕ). take k (drop at f)) z ∙ ap (name_answer_text f t) y,
        ap (λ (k : ℕ). (p.0, k)) w ∙ ap (name_answer_ptr p o) y,
      )

  pub of-substitute : r ≡ OfSubstitute → (t ≡ name_answer_text f t s) × (◌≡◌ {A = ℕ × ℕ} o (name_answer_ptr p o s))
  unfolding name_answer_text name_answer_ptr
  of-substitute q = let y = sym (sym e ∙ q) in (ap (name_answer_text f t) y, ap (name_answer_ptr p o) y)
