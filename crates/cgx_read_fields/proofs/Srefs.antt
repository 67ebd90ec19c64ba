-- The fields of an SREF by its flags: eight cases, in which each field is where `sref_layout` says. Assumes nothing.
use Rattle.std.specs.Prelude.{Option}
use mathlib.Core.Path.{◌≡◌, refl, sym, ap, ◌∙◌, subst}
use mathlib.Core.Bool.{Bool, true, false, cond}
use mathlib.Core.List.{List, [], ◌∷◌}
use Prim.Native.Nat.{ℕ, ◌+◌, ◌-◌, ◌≤◌}
use native.Mathlib.Omega.{arith}
use lib.Dec.{T, leb→le}
use lib.ListN.{take, drop}
use Rattle.cgx_spec.specs.declared.Kind.TheVariants.{Sref as sref}
use Rattle.cgx_spec.specs.Numbers.{long_of, longs_of}
use Rattle.cgx_spec.specs.Strings.{good_string}
use Rattle.cgx_spec.specs.Fields.{Field, real, positive, string, Value, missing, numbers, value, width, rule_of, good, keeps, values}
use Rattle.cgx_spec.specs.Kinds.{angle, magnif, array, only_if, long, count, point, layout}
use Rattle.cgx_spec.specs.Restated.{good_size}
use Rattle.cgx_spec.proofs.Lists.{and_left}
use Rattle.cgx_format_kinds.specs.declared.Point.{Point}
use Rattle.cgx_format_kinds.specs.declared.TextSpan.{TextSpan}
use Rattle.cgx_format_kinds.specs.declared.Grid.{Grid}
use Rattle.cgx_format_kinds.specs.declared.Fields.TheVariants.{Sref}
use Rattle.cgx_format_kinds.specs.Meant.{span_text, optional_value, array_values, field_values, fields_kind}
use Rattle.cgx_format_sref.specs.declared.SrefLayout.{SrefLayout}
use Rattle.cgx_format_sref.specs.Layouts.{magnif_offset, array_offset, name_offset, sref_layout, Laid}
use Rattle.cgx_read_fields.specs.Views.{Readable, TextAt, FieldsAt, ReadAt, pieces_at, values_at, StringAt, AnswerAt, real_if, array_if, ArrayIs}
use Rattle.cgx_read_fields.proofs.Parts.{◌then◌, long-value, second-value}
use Rattle.cgx_read_fields.proofs.Ready.{sized, texts-kept, string-from}
use Rattle.cgx_spec.specs.declared.Real.{Real}

abbrev fields_of : Bool → Bool → Bool → List Field
fields_of a m r = long ∷ long ∷ only_if a real ∷ only_if m positive ∷ only_if r count ∷ only_if r count ∷ only_if r point ∷ only_if r point ∷ string ∷ []

-- ---- the eight cases

module _ (f : List ℕ) (at size : ℕ) where
  abbrev tail : ℕ → List ℕ
  tail o = take (size - o) (drop (at + o) f)

  abbrev values_by : Bool → Bool → Bool → List Value
  values_by a m r =
      numbers (longs_of (take 4 (drop (at + 4) f))) ∷ numbers (longs_of (take 4 (drop (at + 8) f))) ∷ real_if a f (at + 12) ∷ real_if m f (at + magnif_offset a)
      ∷ array_if r f at (array_offset a m) (value string (tail (name_offset a m r)) ∷ missing ∷ [])

  by_flags : (a m r : Bool) → values (pieces_at f at size (fields_of a m r) 4) ≡ values_by a m r
  unfolding values pieces_at width value real_if array_if
  by_flags true true true = refl
  by_flags true true false = refl
  by_flags true false true = refl
  by_flags true false false = refl
  by_flags false true true = refl
  by_flags false true false = refl
  by_flags false false true = refl
  by_flags false false false = refl

  name-good : (a m r : Bool) → T (keeps 11 (pieces_at f at size (fields_of a m r) 4)) → T (good_string (tail (name_offset a m r)))
  unfolding pieces_at width keeps rule_of good
  name-good true true true t = and_left (good_string (tail 52)) true t
  name-good true true false t = and_left (good_string (tail 28)) true t
  name-good true false true t = and_left (good_string (tail 44)) true t
  name-good true false false t = and_left (good_string (tail 20)) true t
  name-good false true true t = and_left (good_string (tail 44)) true t
  name-good false true false t = and_left (good_string (tail 20)) true t
  name-good false false true t = and_left (good_string (tail 36)) true t
  name-good false false false t = and_left (good_string (tail 12)) true t

least_size : (a m r : Bool) → 4 + 8 + cond a 8 0 + cond m 8 0 + cond r 24 0 + 2 ≡ name_offset a m r + 2
least_size true true true = refl
least_size true true false = refl
least_size true false true = refl
least_size true false false = refl
least_size false true true = refl
least_size false true false = refl
least_size false false true = refl
least_size false false false = refl

pub sref-ready : {fl : ℕ} {f : List ℕ} {at size : ℕ} → Readable sref fl f at size → StringAt f (at + (sref_layout fl).name) (size - (sref_layout fl).name)
unfolding good_size layout
sref-ready {fl} {f} {at} {size} r =
    let a = angle fl in
    let m = magnif fl in
    let y = array fl in
    string-from (name_offset a m y) r.held (subst (λ (n : ℕ). n ≤ size) (least_size a m y) (leb→le (4 + 8 + cond a 8 0 + cond m 8 0 + cond y 24 0 + 2) size (sized r))) (name-good f at size a m y (texts-kept r))

-- ---- with the layout that code has worked out

-- the layout of these flags, and all of it inside the file
pub record Room (fl : ℕ) (f : List ℕ) (at size : ℕ) (l : SrefLayout) : Type 0 where
  pub is : l ≡ sref_layout fl
  pub laid : Laid l
  pub name : StringAt f (at + l.name) (size - l.name)

pub sref-room : (fl : ℕ) (f : List ℕ) (at size : ℕ) {l : SrefLayout} → StringAt f (at + (sref_layout fl).name) (size - (sref_layout fl).name) → (l ≡ sref_layout fl) × Laid l → Room fl f at size l
sref-room fl f at size s e = record { is = e.0; laid = e.1; name = subst (λ (x : SrefLayout). StringAt f (at + x.name) (size - x.name)) (sym e.0) s }

pub sref-by : {fl : ℕ} {f : List ℕ} {at size : ℕ} {l : SrefLayout} → Room fl f at size l → (p : Point) (a b : Option Real) (d : Option Grid) (t : TextSpan)
    → (p.x ≡ long_of (take 4 (drop (at + 4) f))) × (p.y ≡ long_of (take 4 (drop (at + 4 + 4) f)))
    → (optional_value a ≡ real_if l.turned f (at + 12)) × AnswerAt f (at + 12) a → (optional_value b ≡ real_if l.scaled f (at + l.magnif)) × AnswerAt f (at + l.magnif) b → ArrayIs l.repeated f at l.array d
    → (span_text f t ≡ value string (take (size - l.name) (drop (at + l.name) f))) × TextAt (at + l.name) (at + l.name + (size - l.name)) t
    → ReadAt sref fl f at size (Sref (record { at = p; angle = a; magnif = b; array = d; name = t }))
unfolding FieldsAt field_values fields_kind values_at layout
sref-by {fl} {f} {at} {size} {l} h p a b d t ep ea eb ed et =
    let i = h.name.inside in
    let e = h.name.least in
    let o = h.laid in
    let q = h.is in
    let last : SrefLayout → List Value = λ (x : SrefLayout). value string (tail f at size x.name) ∷ missing ∷ [] in
    record {
      kind-is = refl;
      located = (ea.1, subst (λ (x : SrefLayout). AnswerAt f (at + x.magnif) b) q eb.1, (et.1.0 ∙ ap (λ (x : SrefLayout). at + x.name) q, omega arith));
      meant =
          (long-value f (at + 4) (omega arith) ep.0 then second-value f (at + 4) (at + 8) (omega arith) (omega arith) ep.1
          then (ea.0 ∙ ap (λ (x : SrefLayout). real_if x.turned f (at + 12)) q)
          then (eb.0 ∙ ap (λ (x : SrefLayout). real_if x.scaled f (at + x.magnif)) q)
          then (ap (λ (v : Value). array_values d (v ∷ missing ∷ [])) et.0 ∙ ed (last l) ∙ ap (λ (x : SrefLayout). array_if x.repeated f at x.array (last x)) q))
          ∙ sym (by_flags f at size (angle fl) (magnif fl) (array fl));
    }
