-- What a readable record gives the reader of its kind: its size is one that the kind may have, its strings are good, and its fields are at their offsets
-- in the file. Assumes nothing.
use mathlib.Core.Path.{◌≡◌, refl, sym, ap, ◌∙◌, subst}
use mathlib.Core.Bool.{true, ◌&&◌}
use mathlib.Core.List.{List, [], ◌∷◌}
use Prim.Native.Nat.{ℕ, ◌+◌, ◌*◌, ◌-◌, ◌%◌, ◌≤◌}
use native.Mathlib.Omega.{arith}
use lib.Dec.{T, leb, eqb, leb→le, eqb→eq}
use lib.ListN.{length, take, drop, length-drop}
use lib.Seq.{length-take-le}
use Rattle.cgx_spec.specs.declared.Kind.{Kind}
use Rattle.cgx_spec.specs.declared.Kind.TheVariants.{Library, Struct, Cprpty, Property, Layer, Box, Poly, Wire, Text, Endlib}
use Rattle.cgx_spec.specs.Strings.{good_string}
use Rattle.cgx_spec.specs.Fields.{optional, value, width, rule_of, good, Piece, pieces, keeps, values}
use Rattle.cgx_spec.specs.Kinds.{layout}
use Rattle.cgx_spec.specs.Records.{Rec, pieces_of}
use Rattle.cgx_spec.specs.Walking.{Held, rec_at}
use Rattle.cgx_spec.specs.Restated.{good_size}
use Rattle.cgx_spec.proofs.Lists.{T→true, true→T, and_left, and_right}
use Rattle.cgx_spec.proofs.Sizes.{sizes-agree}
use Rattle.cgx_format_kinds.specs.declared.Fields.{Fields}
use Rattle.cgx_format_kinds.specs.declared.Fields.TheVariants as fields
use Rattle.cgx_format_kinds.specs.Meant.{field_values, fields_kind}
use Rattle.cgx_read_fields.specs.Views.{Readable, FieldsAt, ReadAt, pieces_at, values_at, StringAt, OptionalAt}
use Rattle.cgx_read_fields.proofs.Cuts.{cut}
use Rattle.cgx_read_fields.proofs.Texts.{two-at-least}

-- ---- of every kind

pub told : {k j : Kind} {fl : ℕ} {f : List ℕ} {at size : ℕ} → k ≡ j → Readable k fl f at size → Readable j fl f at size
told {fl = fl} {f = f} {at = at} {size = size} e r = subst (λ (x : Kind). Readable x fl f at size) e r

module _ {k : Kind} {fl : ℕ} {f : List ℕ} {at size : ℕ} (r : Readable k fl f at size) where
  abbrev body : List ℕ
  body = take (size - 4) (drop (at + 4) f)

  body_length : length body ≡ size - 4
  body_length = let h = r.held.inside in let l = r.held.least in length-take-le (size - 4) (drop (at + 4) f) (omega (arith, length-drop (at + 4) f))

  body-cut : pieces (layout k fl) body ≡ pieces_at f at size (layout k fl) 4
  unfolding rec_at
  body-cut = cut f at size r.held.inside (layout k fl) 4 r.held.least (true→T r.fits)

  pub meant-at : values_at k fl f at size ≡ values (pieces (layout k fl) (rec_at f at size).body)
  unfolding rec_at values_at
  meant-at = ap values (sym body-cut)

  -- fields that are read by their offsets are those of its body, as `fields_of` ensures it
  pub read_as : {j : Kind} {fs : Fields} → k ≡ j → ReadAt j fl f at size fs → record { result_value : field_values f fs ≡ values (pieces (layout k fl) (rec_at f at size).body); kind : fields_kind fs ≡ k; located : FieldsAt fl f at (at + size) fs }
  read_as {fs = fs} e d = let q = subst (λ (x : Kind). ReadAt x fl f at size fs) (sym e) d in record { result_value = q.meant ∙ meant-at; kind = q.kind-is; located = q.located }

  pub texts-kept : T (keeps 11 (pieces_at f at size (layout k fl) 4))
  unfolding rec_at
  texts-kept = subst (λ (ps : List Piece). T (keeps 11 ps)) body-cut (true→T r.texts)

  abbrev as-rec : Rec
  as-rec = record { type = 0; flags = fl; body = body }

  pub sized : T (good_size k fl size)
  unfolding rec_at pieces_of
  sized =
      let l = r.held.least in
      let m = r.held.most in
      let e = r.held.even in
      let n : 4 + length body ≡ size = omega (arith, body_length) in
      subst (λ (n : ℕ). T (good_size k fl n)) n (true→T (sym (sizes-agree k as-rec (omega (arith, body_length)) (omega (arith, body_length))) ∙ r.fits))

-- ---- records that end in a string

pub string-from : {f : List ℕ} {at size : ℕ} (o : ℕ) → Held f at size → o + 2 ≤ size → T (good_string (take (size - o) (drop (at + o) f))) → StringAt f (at + o) (size - o)
string-from o h l t = let i = h.inside in record { least = omega arith; inside = omega arith; good = T→true t }

-- the test that `keeps` makes of the last string
tail-kept : {f : List ℕ} {at size : ℕ} (o : ℕ) → Held f at size → o + 2 ≤ size → T (good_string (take (size - o) (drop (at + o) f)) && true) → StringAt f (at + o) (size - o)
tail-kept {f} {at} {size} o h l t = string-from o h l (and_left (good_string (take (size - o) (drop (at + o) f))) true t)

module _ {fl : ℕ} {f : List ℕ} {at size : ℕ} where
  pub library-ready : Readable Library fl f at size → StringAt f (at + 36) (size - 36)
  unfolding good_size layout pieces_at width keeps rule_of good
  library-ready r = tail-kept 36 r.held (leb→le 38 size (sized r)) (texts-kept r)

  pub struct-ready : Readable Struct fl f at size → StringAt f (at + 20) (size - 20)
  unfolding good_size layout pieces_at width keeps rule_of good
  struct-ready r = tail-kept 20 r.held (leb→le 22 size (sized r)) (texts-kept r)

  pub cprpty-ready : Readable Cprpty fl f at size → StringAt f (at + 8) (size - 8)
  unfolding good_size layout pieces_at width keeps rule_of good
  cprpty-ready r = tail-kept 8 r.held (leb→le 10 size (sized r)) (texts-kept r)

  pub property-ready : Readable Property fl f at size → StringAt f (at + 8) (size - 8)
  unfolding good_size layout pieces_at width keeps rule_of good
  property-ready r = tail-kept 8 r.held (leb→le 10 size (sized r)) (texts-kept r)

  pub text-ready : Readable Text fl f at size → StringAt f (at + 16) (size - 16)
  unfolding good_size layout pieces_at width keeps rule_of good
  text-ready r = tail-kept 16 r.held (leb→le 18 size (sized r)) (texts-kept r)

-- ---- a LAYER

given : (b : List ℕ) → (length b ≡ 0 → ⊥) → T (good optional b) → T (good_string b)
unfolding good
given [] h t = absurd (h refl)
given (x ∷ b) h t = t

pub layer-ready : {fl : ℕ} {f : List ℕ} {at size : ℕ} → Readable Layer fl f at size → (8 ≤ size) × OptionalAt f (at + 8) (size - 8)
unfolding good_size layout pieces_at width keeps rule_of
layer-ready {f = f} {at = at} {size = size} r =
    let l : 8 ≤ size = leb→le 8 size (sized r) in
    let i = r.held.inside in
    let b = take (size - 8) (drop (at + 8) f) in
    let n : length b ≡ size - 8 = length-take-le (size - 8) (drop (at + 8) f) (omega (arith, length-drop (at + 8) f)) in
    let t : T (good optional b) = and_left (good optional b) true (texts-kept r) in (
      l,
      record {
        inside = omega arith;
        named = λ z. let g = given b (λ q. z (sym n ∙ q)) t in string-from 8 r.held (omega (arith, two-at-least b g)) g;
      },
    )

-- ---- boxes and points

repeated-is : (base u lo hi n : ℕ) → T (leb (base + u * lo) n && leb n (base + u * hi) && eqb ((n - base) % u) 0) → (base + u * lo ≤ n) × ((n - base) % u ≡ 0)
repeated-is base u lo hi n t =
    let a = leb (base + u * lo) n in
    let b = leb n (base + u * hi) in
    let z = eqb ((n - base) % u) 0 in
    (leb→le (base + u * lo) n (and_left a b (and_left (a && b) z t)), eqb→eq ((n - base) % u) 0 (and_right (a && b) z t))

module _ {fl : ℕ} {f : List ℕ} {at size : ℕ} where
  pub box-ready : Readable Box fl f at size → (4 ≤ size) × (at + size ≤ length f) × ((size - 4) % 16 ≡ 0)
  unfolding good_size
  box-ready r = let z = repeated-is 4 16 1 4095 size (sized r) in (r.held.least, r.held.inside, z.1)

  pub poly-ready : Readable Poly fl f at size → (4 ≤ size) × (at + size ≤ length f) × ((size - 4) % 8 ≡ 0)
  unfolding good_size
  poly-ready r = let z = repeated-is 4 8 4 8191 size (sized r) in (r.held.least, r.held.inside, z.1)

  pub wire-ready : Readable Wire fl f at size → (8 ≤ size) × (at + size ≤ length f) × ((size - 8) % 8 ≡ 0)
  unfolding good_size
  wire-ready r = let z = repeated-is 8 8 1 8190 size (sized r) in (omega (arith, z.0), r.held.inside, z.1)

-- ---- an ENDLIB

pub endlib-read : (fl : ℕ) (f : List ℕ) (at size : ℕ) → ReadAt Endlib fl f at size fields.Endlib
unfolding FieldsAt field_values fields_kind values_at layout pieces_at values value
endlib-read fl f at size = record { meant = refl; kind-is = refl; located = tt }
