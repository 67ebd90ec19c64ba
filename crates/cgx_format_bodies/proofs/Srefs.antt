-- The laws of an SREF's body: eight cases of its flags. Assumes nothing.
use Rattle.std.specs.Prelude.{Option, Some}
use mathlib.Core.Path.{◌≡◌, refl, sym, ap, ap₂, ◌∙◌, subst}
use mathlib.Core.Bool.{Bool, true, false, not, ◌&&◌, ◌||◌}
use mathlib.Core.List.{List, [], ◌∷◌}
use Prim.Native.Nat.{ℕ, ◌+◌, ◌-◌, ◌≤◌, ◌<◌}
use native.Mathlib.Omega.{arith}
use borrow.Author.Rules.{rules}
use lib.Dec.{T}
use lib.ListN.{length, take, drop}
use Rattle.cgx_spec.specs.Numbers.{longs_of}
use Rattle.cgx_spec.specs.Reals.{positive_real}
use Rattle.cgx_spec.specs.Strings.{good_string}
use Rattle.cgx_spec.specs.Fields.{Field, real, positive, string, width, every, keeps, rule_of, good, passes, ones}
use Rattle.cgx_spec.specs.Kinds.{layout, only_if, long, count, point, angle, magnif, array}
use Rattle.cgx_spec.specs.Records.{rule, broken}
use Rattle.cgx_spec.specs.declared.Kind.TheVariants.{Sref}
use Rattle.cgx_format_sref.specs.declared.SrefLayout.{SrefLayout}
use Rattle.cgx_format_sref.specs.Layouts.{magnif_offset, array_offset, name_offset, sref_layout}
use Rattle.cgx_format_bodies.specs.Bodies.{body_fault, Body}
use Rattle.cgx_spec.proofs.Cuts.{cut_at, Room, sane}
use Rattle.cgx_format_bodies.proofs.Faults.{fault-8, fault-on, alone, pair}

abbrev fields_of : Bool → Bool → Bool → List Field
fields_of a m r = long ∷ long ∷ only_if a real ∷ only_if m positive ∷ only_if r count ∷ only_if r count ∷ only_if r point ∷ only_if r point ∷ string ∷ []

-- in bytes from the body's first, which is the record's fifth
abbrev magnif_at : Bool → ℕ
magnif_at a = magnif_offset a - 4

abbrev grid_at : Bool → Bool → ℕ
grid_at a m = array_offset a m - 4

abbrev name_at : Bool → Bool → Bool → ℕ
name_at a m r = name_offset a m r - 4

all-sane : (a m r : Bool) → T (every sane (fields_of a m r))
all-sane true true true = tt
all-sane true true false = tt
all-sane true false true = tt
all-sane true false false = tt
all-sane false true true = tt
all-sane false true false = tt
all-sane false false true = tt
all-sane false false false = tt

module _ (b : List ℕ) (y : Body b) where
  room : (a m r : Bool) → name_at a m r + 2 ≤ length b → Room (fields_of a m r) 0 (length b)
  unfolding width
  room true true true h = search rules
  room true true false h = search rules
  room true false true h = search rules
  room true false false h = search rules
  room false true true h = search rules
  room false true false h = search rules
  room false false true h = search rules
  room false false false h = search rules

  no_room : (a m r : Bool) → length b < name_at a m r + 2 → Room (fields_of a m r) 0 (length b) → ⊥
  unfolding width
  no_room true true true h q = omega arith
  no_room true true false h q = omega arith
  no_room true false true h q = omega arith
  no_room true false false h q = omega arith
  no_room false true true h q = omega arith
  no_room false true false h q = omega arith
  no_room false false true h q = omega arith
  no_room false false false h q = omega arith

module _ (b : List ℕ) where
  keeps-9 : (a m r : Bool) → keeps 9 (cut_at (fields_of a m r) 0 b) ≡ true
  unfolding width keeps rule_of
  keeps-9 true true true = refl
  keeps-9 true true false = refl
  keeps-9 true false true = refl
  keeps-9 true false false = refl
  keeps-9 false true true = refl
  keeps-9 false true false = refl
  keeps-9 false false true = refl
  keeps-9 false false false = refl

  keeps-12 : (a m r : Bool) → keeps 12 (cut_at (fields_of a m r) 0 b) ≡ true
  unfolding width keeps rule_of
  keeps-12 true true true = refl
  keeps-12 true true false = refl
  keeps-12 true false true = refl
  keeps-12 true false false = refl
  keeps-12 false true true = refl
  keeps-12 false true false = refl
  keeps-12 false false true = refl
  keeps-12 false false false = refl

  keeps-11 : (a m r : Bool) → keeps 11 (cut_at (fields_of a m r) 0 b) ≡ good_string (take (length b - name_at a m r) (drop (name_at a m r) b))
  unfolding width keeps rule_of good
  keeps-11 true true true = alone refl
  keeps-11 true true false = alone refl
  keeps-11 true false true = alone refl
  keeps-11 true false false = alone refl
  keeps-11 false true true = alone refl
  keeps-11 false true false = alone refl
  keeps-11 false false true = alone refl
  keeps-11 false false false = alone refl

  abbrev scaled : ℕ → Bool
  scaled at = positive_real ((take 8 (drop at b)))

  abbrev counted : ℕ → Bool
  counted at = ones (longs_of (take 4 (drop at b)))

  keeps-10 : (a m r : Bool) → keeps 10 (cut_at (fields_of a m r) 0 b) ≡ ((not m || scaled (magnif_at a)) && (not r || (counted (grid_at a m) && counted (grid_at a m + 4))))
  unfolding width keeps rule_of good passes
  keeps-10 true true true = ap (λ (v : Bool). scaled 16 && v) (pair {a = counted 24} {b = counted 28} refl refl)
  keeps-10 true true false = refl
  keeps-10 true false true = pair {a = counted 16} {b = counted 20} refl refl
  keeps-10 true false false = refl
  keeps-10 false true true = ap (λ (v : Bool). scaled 8 && v) (pair {a = counted 16} {b = counted 20} refl refl)
  keeps-10 false true false = refl
  keeps-10 false false true = pair {a = counted 8} {b = counted 12} refl refl
  keeps-10 false false false = refl

-- with the layout that code has worked out
module _ (fl : ℕ) (b : List ℕ) (y : Body b) {l : SrefLayout} (is : l ≡ sref_layout fl) where
  abbrev a : Bool
  a = angle fl

  abbrev m : Bool
  m = magnif fl

  abbrev g : Bool
  g = array fl

  pub sref-8 : length b < l.name - 4 + 2 → Some 8 ≡ body_fault Sref fl b
  unfolding layout
  sref-8 h = fault-8 Sref fl b (all-sane a m g) (no_room b y a m g (subst (λ (x : SrefLayout). length b < x.name - 4 + 2) is h))

  pub sref-on : l.name - 4 + 2 ≤ length b → {s1 s2 s3 : Bool} {r : Option ℕ}
      → r ≡ broken (rule 9 true ∷ rule 10 (s1 && s2) ∷ rule 11 s3 ∷ rule 12 true ∷ [])
      → s1 ≡ (not l.scaled || positive_real ((take 8 (drop (l.magnif - 4) b))))
      → s2 ≡ (not l.repeated || (ones (longs_of (take 4 (drop (l.array - 4) b))) && ones (longs_of (take 4 (drop (l.array - 4 + 4) b)))))
      → s3 ≡ good_string (take (length b - (l.name - 4)) (drop (l.name - 4) b)) → r ≡ body_fault Sref fl b
  unfolding layout
  sref-on h {s1} {s2} {s3} e e1 e2 e3 =
      fault-on Sref fl b true (s1 && s2) s3 true (all-sane a m g)
      (room b y a m g (subst (λ (x : SrefLayout). x.name - 4 + 2 ≤ length b) is h)) e
      (keeps-9 b a m g)
      (keeps-10 b a m g ∙ sym (ap₂ ◌&&◌ (e1 ∙ ap (λ (x : SrefLayout). not x.scaled || scaled b (x.magnif - 4)) is) (e2 ∙ ap (λ (x : SrefLayout). not x.repeated || (counted b (x.array - 4) && counted b (x.array - 4 + 4))) is)))
      (keeps-11 b a m g ∙ sym (e3 ∙ ap (λ (x : SrefLayout). good_string (take (length b - (x.name - 4)) (drop (x.name - 4) b))) is))
      (keeps-12 b a m g)

-- a field that is present
module _ (b : List ℕ) (at : ℕ) {s : Bool} (t : s ≡ true) where
  pub magnif-yes : {r : Bool} → r ≡ positive_real ((take (at + 8 - at) (drop at b))) → r ≡ (not s || positive_real ((take 8 (drop at b))))
  magnif-yes e =
      let n : at + 8 - at ≡ 8 = omega arith in
      e ∙ ap (λ (k : ℕ). positive_real ((take k (drop at b)))) n ∙ ap (λ (v : Bool). not v || positive_real ((take 8 (drop at b)))) (sym t)

  pub grid-yes : {q r : Bool} → q ≡ ones (longs_of (take (at + 4 - at) (drop at b))) → r ≡ ones (longs_of (take (at + 8 - (at + 4)) (drop (at + 4) b)))
      → (q && r) ≡ (not s || (ones (longs_of (take 4 (drop at b))) && ones (longs_of (take 4 (drop (at + 4) b)))))
  grid-yes e f =
      let n : at + 4 - at ≡ 4 = omega arith in
      let m : at + 8 - (at + 4) ≡ 4 = omega arith in
      ap₂ ◌&&◌ (e ∙ ap (λ (k : ℕ). ones (longs_of (take k (drop at b)))) n) (f ∙ ap (λ (k : ℕ). ones (longs_of (take k (drop (at + 4) b)))) m)
      ∙ ap (λ (v : Bool). not v || (ones (longs_of (take 4 (drop at b))) && ones (longs_of (take 4 (drop (at + 4) b))))) (sym t)
