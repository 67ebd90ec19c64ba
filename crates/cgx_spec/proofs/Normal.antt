-- The normal form of a record: same rules kept, same meaning; and records of equal meaning have one normal form.
use Rattle.std.specs.Prelude.{None, Option, Some, slice_get}
use mathlib.Core.Path.{◌≡◌, refl, sym, ap, ap₂, ◌∙◌, subst}
use mathlib.Core.Bool.{Bool, true, false, not, ◌&&◌, ◌||◌}
use mathlib.Core.List.{List, [], ◌∷◌, ◌++◌, map, head-eq_of_cons-eq, tail-eq_of_cons-eq}
use Prim.Native.Nat.{ℕ, zero, suc, ◌<◌}
use native.Mathlib.Omega.{arith}
use lib.Dec.{T, ltb, eqb, eqb→eq, ltb→lt}
use lib.ListN.{length, take, drop}
use Rattle.cgx_spec.specs.declared.Kind.{Kind}
use Rattle.cgx_spec.specs.declared.Kind.TheVariants.{Library, Struct, Cprpty, Property, Layer, Box, Poly, Wire, Text, Sref, Endlib}
use Rattle.cgx_spec.specs.Numbers.{Bytes}
use Rattle.cgx_spec.specs.Fields.{any, counts, ordered, closed, Field, real, positive, date, short, longs, string, optional, absent, fits, width, rule_of, passes, good, normal, Piece, pieces, lengths_fit, keeps, values, normal_bytes}
use Rattle.cgx_spec.specs.Kinds.{kind_of, type_for, text_flags, Flags, meaningless, version, up_to, orientation, flags_for, allows, meant, good_flags, flags_of, layout}
use Rattle.cgx_spec.specs.Records.{Rec, pieces_of, meaning_of, normal_of, Rule, rule, broken, rules}
use Rattle.cgx_spec.proofs.Lists.{T→true, all_below, at_each, every-cons, and_left, and_right}
use Rattle.cgx_spec.proofs.Pieces.{Fit, fit, normal_piece, pieces-normal, lengths_fit-normal, keeps-normal, values-normal}
use Rattle.cgx_spec.proofs.Same.{normal-same}

-- ---- flags

-- meant twice is meant once, and it is a byte
settled : ℕ → Bool
settled fl = eqb (meant orientation (meant orientation fl)) (meant orientation fl) && ltb (meant orientation fl) 256

all_settled : (fl : ℕ) → fl < 256 → T (settled fl)
unfolding settled all_below text_flags
all_settled fl h = at_each 256 settled tt fl h

meant-again : (f : Flags) (fl : ℕ) → fl < 256 → meant f (meant f fl) ≡ meant f fl
meant-again meaningless fl h = refl
meant-again version fl h = refl
meant-again (up_to n) fl h = refl
meant-again orientation fl h =
    let m = meant orientation fl in
    unfold settled in (eqb→eq (meant orientation m) m (and_left (eqb (meant orientation m) m) (ltb m 256) (all_settled fl h)))

meant-byte : (f : Flags) (fl : ℕ) → fl < 256 → meant f fl < 256
meant-byte meaningless fl h = (omega arith)
meant-byte version fl h = h
meant-byte (up_to n) fl h = h
meant-byte orientation fl h =
    let m = meant orientation fl in
    unfold settled in (ltb→lt m 256 (and_right (eqb (meant orientation m) m) (ltb m 256) (all_settled fl h)))

allows-meant : (f : Flags) (fl : ℕ) → allows f (meant f fl) ≡ allows f fl
allows-meant meaningless fl = refl
allows-meant version fl = refl
allows-meant (up_to n) fl = refl
allows-meant orientation fl = refl

pub flags-again : (k : Kind) (fl : ℕ) → fl < 256 → flags_of k (flags_of k fl) ≡ flags_of k fl
flags-again k fl h = meant-again (flags_for k) fl h

pub flags-byte : (k : Kind) (fl : ℕ) → fl < 256 → flags_of k fl < 256
flags-byte k fl h = meant-byte (flags_for k) fl h

good_flags-flags : (k : Kind) (fl : ℕ) → good_flags k (flags_of k fl) ≡ good_flags k fl
good_flags-flags k fl = allows-meant (flags_for k) fl

-- only SREF's flags choose fields, and they are kept
layout-flags : (k : Kind) (fl : ℕ) → layout k (flags_of k fl) ≡ layout k fl
unfolding layout
layout-flags Library fl = refl
layout-flags Struct fl = refl
layout-flags Cprpty fl = refl
layout-flags Property fl = refl
layout-flags Layer fl = refl
layout-flags Box fl = refl
layout-flags Poly fl = refl
layout-flags Wire fl = refl
layout-flags Text fl = refl
layout-flags Sref fl = refl
layout-flags Endlib fl = refl

-- ---- one record

module _ (k : Kind) (r : Rec) (h : Fit (pieces_of k r)) where
  pieces-of-normal : pieces_of k (normal_of k r) ≡ map normal_piece (pieces_of k r)
  unfolding pieces_of normal_of
  pieces-of-normal = rw (layout-flags k r.flags) (pieces-normal (layout k r.flags) r.body h)

  pub meaning-normal : r.flags < 256 → meaning_of k (normal_of k r) ≡ meaning_of k r
  unfolding meaning_of normal_of
  meaning-normal b =
      let e : values (pieces_of k (normal_of k r)) ≡ values (pieces_of k r) = ap values pieces-of-normal ∙ values-normal (pieces_of k r) h in
      λ i. record { kind = k; flags = flags-again k r.flags b i; fields = e i }

  pub rules-normal : (s : Bool) → rules s (Some k) (normal_of k r) ≡ rules s (Some k) r
  unfolding rules
  rules-normal s =
      let ps = pieces_of k r in
      let e : good_flags k (normal_of k r).flags ≡ good_flags k r.flags = unfold normal_of in (good_flags-flags k r.flags) in
      rw (pieces-of-normal, e, lengths_fit-normal ps h, keeps-normal 9 ps h, keeps-normal 10 ps h, keeps-normal 11 ps h, keeps-normal 12 ps h)

-- ---- what the rules say of a record that keeps them

abbrev pub Sound : List Piece → Type 0
Sound [] = Unit {0}
Sound (p ∷ ps) = Bytes p.bytes × T (fits p.field (length p.bytes)) × T (good p.field p.bytes) × Sound ps

pub sound-fit : (ps : List Piece) → Sound ps → Fit ps
sound-fit [] h = tt
sound-fit (p ∷ ps) h = (h.0, h.1, sound-fit ps h.3)

-- the field keeps rule n
abbrev pub kept : ℕ → Piece → Bool
kept n p = not (eqb n (rule_of p.field)) || good p.field p.bytes

kept-good : (f : Field) (b : List ℕ) → let p : Piece = record { field = f; bytes = b } in T (kept 9 p) → T (kept 10 p) → T (kept 11 p) → T (kept 12 p) → T (good f b)
unfolding rule_of good passes
kept-good real b h₉ h₁₀ h₁₁ h₁₂ = tt
kept-good positive b h₉ h₁₀ h₁₁ h₁₂ = h₁₀
kept-good date b h₉ h₁₀ h₁₁ h₁₂ = h₉
kept-good short b h₉ h₁₀ h₁₁ h₁₂ = tt
kept-good (longs n lo hi any) b h₉ h₁₀ h₁₁ h₁₂ = tt
kept-good (longs n lo hi counts) b h₉ h₁₀ h₁₁ h₁₂ = h₁₀
kept-good (longs n lo hi ordered) b h₉ h₁₀ h₁₁ h₁₂ = h₁₀
kept-good (longs n lo hi closed) b h₉ h₁₀ h₁₁ h₁₂ = h₁₂
kept-good string b h₉ h₁₀ h₁₁ h₁₂ = h₁₁
kept-good optional b h₉ h₁₀ h₁₁ h₁₂ = h₁₁
kept-good absent b h₉ h₁₀ h₁₁ h₁₂ = tt

sound : (ps : List Piece) → Fit ps → T (keeps 9 ps) → T (keeps 10 ps) → T (keeps 11 ps) → T (keeps 12 ps) → Sound ps
unfolding keeps
sound [] f h₉ h₁₀ h₁₁ h₁₂ = tt
sound (p ∷ ps) f h₉ h₁₀ h₁₁ h₁₂ =
    let e₉ = every-cons (kept 9) p ps h₉ in
    let e₁₀ = every-cons (kept 10) p ps h₁₀ in
    let e₁₁ = every-cons (kept 11) p ps h₁₁ in
    let e₁₂ = every-cons (kept 12) p ps h₁₂ in
    (f.0, f.1, kept-good p.field p.bytes e₉.0 e₁₀.0 e₁₁.0 e₁₂.0, sound ps f.2 e₉.1 e₁₀.1 e₁₁.1 e₁₂.1)

pub broken-none : (n : ℕ) (b : Bool) (rs : List Rule) → broken (rule n b ∷ rs) ≡ None → T b × (broken rs ≡ None)
unfolding broken
broken-none n true rs e = (tt, e)
broken-none n false rs e = absurd (let z : ◌≡◌ {A = ℕ} 0 1 = cc in omega arith)

-- a record that breaks no rule keeps each
pub record AllKept (s : Bool) (k : Kind) (r : Rec) : Type 0 where
  pub place : T s
  pub flags : T (good_flags k r.flags)
  pub lengths : T (lengths_fit (pieces_of k r))
  pub nine : T (keeps 9 (pieces_of k r))
  pub ten : T (keeps 10 (pieces_of k r))
  pub eleven : T (keeps 11 (pieces_of k r))
  pub twelve : T (keeps 12 (pieces_of k r))

pub all-kept : (s : Bool) (k : Kind) (r : Rec) → broken (rules s (Some k) r) ≡ None → AllKept s k r
unfolding rules
all-kept s k r e =
    let ps = pieces_of k r in
    let e₆ = broken-none 6 s _ e in
    let e₇ = broken-none 7 (good_flags k r.flags) _ e₆.1 in
    let e₈ = broken-none 8 (lengths_fit ps) _ e₇.1 in
    let e₉ = broken-none 9 (keeps 9 ps) _ e₈.1 in
    let e₁₀ = broken-none 10 (keeps 10 ps) _ e₉.1 in
    let e₁₁ = broken-none 11 (keeps 11 ps) _ e₁₀.1 in
    let e₁₂ = broken-none 12 (keeps 12 ps) _ e₁₁.1 in
    record { place = e₆.0; flags = e₇.0; lengths = e₈.0; nine = e₉.0; ten = e₁₀.0; eleven = e₁₁.0; twelve = e₁₂.0 }

-- the fields fit and the strings are good
pub rules-kept : (s : Bool) (k : Kind) (r : Rec) → broken (rules s (Some k) r) ≡ None → (lengths_fit (pieces_of k r) ≡ true) × (keeps 11 (pieces_of k r) ≡ true)
rules-kept s k r e = let h = all-kept s k r e in (T→true h.lengths, T→true h.eleven)

pub keeps-rules : (s : Bool) (k : Kind) (r : Rec) → Bytes r.body → broken (rules s (Some k) r) ≡ None → Sound (pieces_of k r)
keeps-rules s k r hb e =
    let h = all-kept s k r e in
    sound (pieces_of k r) (unfold pieces_of in (fit (layout k r.flags) r.body hb h.lengths)) h.nine h.ten h.eleven h.twelve

-- ---- equal meanings

in_list : (l : List Kind) (t : ℕ) (k : Kind) → slice_get l t ≡ Some k → t < length l
in_list [] t k e = absurd (let z : ◌≡◌ {A = ℕ} 0 1 = cc in omega arith)
in_list (x ∷ l) zero k e = omega arith
in_list (x ∷ l) (suc t) k e = let h : t < length l = in_list l t k e in omega arith

byte_of : Option Kind → ℕ
byte_of None = 11
byte_of (Some k) = type_for k

typed : ℕ → Bool
typed t = eqb (byte_of (kind_of t)) t

-- a known record's type is its kind's
pub type-is : (t : ℕ) (k : Kind) → kind_of t ≡ Some k → t ≡ type_for k
unfolding kind_of byte_of typed all_below
type-is t k e =
    let l = Library ∷ Struct ∷ Cprpty ∷ Property ∷ Layer ∷ Box ∷ Poly ∷ Wire ∷ Text ∷ Sref ∷ Endlib ∷ [] in
    sym (eqb→eq (byte_of (kind_of t)) t (at_each 11 typed tt t (in_list l t k e))) ∙ ap byte_of e

body_same : (fs : List Field) (x y : List ℕ) → Sound (pieces fs x) → Sound (pieces fs y) → values (pieces fs x) ≡ values (pieces fs y) → normal_bytes (pieces fs x) ≡ normal_bytes (pieces fs y)
unfolding pieces values normal_bytes
body_same [] x y hx hy e = ap₂ ◌++◌ (normal-same absent x y hx.0 hy.0 hx.1 hy.1 hx.2 hy.2 (cc)) refl
body_same (f ∷ fs) x y hx hy e =
    let a = take (width f (length x)) x in
    let b = take (width f (length y)) y in
    let x' = drop (width f (length x)) x in
    let y' = drop (width f (length y)) y in
    let p : normal f a ≡ normal f b = normal-same f a b hx.0 hy.0 hx.1 hy.1 hx.2 hy.2 (head-eq_of_cons-eq e) in
    let q : normal_bytes (pieces fs x') ≡ normal_bytes (pieces fs y') = body_same fs x' y' hx.3 hy.3 (tail-eq_of_cons-eq e) in
    ap₂ ◌++◌ p q

record_same : (k : Kind) (q r : Rec) → kind_of q.type ≡ Some k → kind_of r.type ≡ Some k → Sound (pieces_of k q) → Sound (pieces_of k r) → flags_of k q.flags ≡ flags_of k r.flags → values (pieces_of k q) ≡ values (pieces_of k r) → normal_of k q ≡ normal_of k r
unfolding normal_of pieces_of
record_same k q r tq tr hq hr ef ev =
    let el : layout k r.flags ≡ layout k q.flags = sym (layout-flags k r.flags) ∙ ap (layout k) (sym ef) ∙ layout-flags k q.flags in
    let b : normal_bytes (pieces (layout k q.flags) q.body) ≡ normal_bytes (pieces (layout k r.flags) r.body) =
    rw el (body_same (layout k q.flags) q.body r.body hq (rw el at hr) (rw el at ev)) in
    let t : q.type ≡ r.type = type-is q.type k tq ∙ sym (type-is r.type k tr) in
    λ i. record { type = t i; flags = ef i; body = b i }

pub known_same : (j k : Kind) (q r : Rec) → kind_of q.type ≡ Some j → kind_of r.type ≡ Some k → Sound (pieces_of j q) → Sound (pieces_of k r) → meaning_of j q ≡ meaning_of k r → normal_of j q ≡ normal_of k r
unfolding meaning_of
known_same j k q r tq tr hq hr e =
    subst
    (λ (k' : Kind). kind_of r.type ≡ Some k' → Sound (pieces_of k' r) → flags_of j q.flags ≡ flags_of k' r.flags → values (pieces_of j q) ≡ values (pieces_of k' r) → normal_of j q ≡ normal_of k' r)
    (ap (λ m. m.kind) e)
    (λ tr' hr' ef ev. record_same j q r tq tr' hq hr' ef ev)
    tr
    hr
    (ap (λ m. m.flags) e)
    (ap (λ m. m.fields) e)
