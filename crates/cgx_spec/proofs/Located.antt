-- The rules 9 to 12 of a record: by the fields of its layout, and by 01's words at the offsets that 01 gives for its kind. Assumes nothing.
use mathlib.Core.Path.{◌≡◌, refl, sym, ap, ◌∙◌, subst}
use mathlib.Core.Logic.{◌↔◌}
use mathlib.Core.Bool.{Bool, true, false, ◌&&◌, cond}
use mathlib.Core.List.{List, [], ◌∷◌}
use Prim.Native.Nat.{ℕ, suc, ◌+◌, ◌*◌, ◌-◌, ◌≤◌}
use native.Mathlib.Omega.{arith}
use borrow.Author.Tests.{leb-true, le-leb, lt-leb, eqb-true, eq-eqb}
use lib.Dec.{leb}
use lib.IntN.{ℤ, pos}
use lib.ListN.{length, take, drop, get_or, length-drop}
use lib.Seq.{length-take-le, take_all}
use lib.Signed.{le_z, ◌≤ℤ◌, ◌<ℤ◌}
use Rattle.cgx_spec.specs.declared.Kind.{Kind}
use Rattle.cgx_spec.specs.declared.Kind.TheVariants.{Library, Struct, Cprpty, Property, Layer, Box, Poly, Wire, Text, Sref, Endlib}
use Rattle.cgx_spec.specs.Numbers.{long_of, longs_of}
use Rattle.cgx_spec.specs.Reals.{positive as above0, real_of, positive_real}
use Rattle.cgx_spec.specs.Dates.{within, last_second, calendar, good_date}
use Rattle.cgx_spec.specs.Strings.{text_of, same, good_string}
use Rattle.cgx_spec.specs.Fields.{Field, optional, width, rule_of, ones, in_order, passes, good, pieces, every, All, keeps}
use Rattle.cgx_spec.specs.Kinds.{layout}
use Rattle.cgx_spec.specs.Restated.{has_array, cols_at, name_at, good_size, dates_at, scales_at, counts_at, boxes_at, strings_at, polygons_at, IsString, IsDate, Boxes}
use Rattle.cgx_spec.specs.Checks.{part, DatesGood, NumbersGood, HoldsText, StringsGood, PolygonsGood}
use Rattle.cgx_spec.proofs.Lists.{T→true, true→T, and-true, same→eq, same_refl}
use Rattle.cgx_spec.proofs.Sizes.{flagged, by_flags}
use Rattle.cgx_spec.proofs.Cuts.{cut_at, cut-is, whole, ending}
use Rattle.cgx_spec.proofs.Agreement.{agreement}
use Rattle.cgx_spec.proofs.Firsts.{and-iff, iff-by, every-iff, each-iff}

-- ---- the tests of single fields

le_iff : (a b : ℤ) → (le_z a b ≡ true) ↔ (a ≤ℤ b)
le_iff a b = ((λ e. record { le = true→T e }), (λ h. T→true h.le))

real-iff : (b : List ℕ) → (positive_real b ≡ true) ↔ (pos 0 <ℤ real_of b)
unfolding positive_real real_of above0
real-iff b = ((λ e. record { lt = true→T e }), (λ h. T→true h.lt))

same-iff : (l r : List ℕ) → (same l r ≡ true) ↔ (l ≡ r)
same-iff l r = ((λ e. same→eq l r (true→T e)), (λ e. T→true (rw (sym e) (same_refl l))))

string-iff : (b : List ℕ) → (good_string b ≡ true) ↔ HoldsText b
string-iff b = (
  (λ e. record { text = text_of b; is = (agreement.strings b).0 e }),
  (λ h. (agreement.strings b).1 (subst (IsString b) (sym (agreement.texts b h.text h.is)) h.is)),
)

within-iff : (lo hi x : ℕ) → (within lo hi x ≡ true) ↔ ((lo ≤ x) × (x ≤ hi))
within-iff lo hi x = (
  (λ e. let h = (and-iff (leb lo x) (leb x hi)).0 e in (leb-true lo x h.0, leb-true x hi h.1)),
  (λ h. (and-iff (leb lo x) (leb x hi)).1 (le-leb lo x h.0, le-leb x hi h.1)),
)

date-iff : (b : List ℕ) → (good_date b ≡ true) ↔ IsDate b
unfolding good_date calendar
date-iff b = (to, from)
  where
    to : good_date b ≡ true → IsDate b
    to e =
        let e₁ = (and-iff _ _).0 e in
        let e₂ = (and-iff _ _).0 e₁.0 in
        let e₃ = (and-iff _ _).0 e₂.0 in
        let e₄ = (and-iff _ _).0 e₃.0 in
        let e₅ = (and-iff _ _).0 e₄.0 in
        record {
          month = (within-iff 1 12 (get_or b 2 0)).0 e₅.0;
          day = (within-iff 1 31 (get_or b 3 0)).0 e₅.1;
          hour = ((within-iff 0 23 (get_or b 4 0)).0 e₄.1).1;
          minute = ((within-iff 0 59 (get_or b 5 0)).0 e₃.1).1;
          second = let h = (within-iff 0 last_second (get_or b 6 0)).0 e₂.1 in omega arith;
          last = eqb-true (get_or b 7 0) 0 e₁.1;
        }

    from : IsDate b → good_date b ≡ true
    from i =
        let m = (within-iff 1 12 (get_or b 2 0)).1 i.month in
        let d = (within-iff 1 31 (get_or b 3 0)).1 i.day in
        let h = (within-iff 0 23 (get_or b 4 0)).1 (omega arith, i.hour) in
        let n = (within-iff 0 59 (get_or b 5 0)).1 (omega arith, i.minute) in
        let h₆ = i.second in
        let s = (within-iff 0 last_second (get_or b 6 0)).1 (omega arith, omega arith) in
        (and-iff _ _).1 ((and-iff _ _).1 ((and-iff _ _).1 ((and-iff _ _).1 ((and-iff _ _).1 (m, d), h), n), s), eq-eqb (get_or b 7 0) 0 i.last)

boxes-iff : (zs : List ℤ) → (in_order zs ≡ true) ↔ Boxes zs
unfolding in_order
boxes-iff [] = ((λ e. tt), (λ u. refl))
boxes-iff (l ∷ []) = ((λ e. tt), (λ u. refl))
boxes-iff (l ∷ b ∷ []) = ((λ e. tt), (λ u. refl))
boxes-iff (l ∷ b ∷ r ∷ []) = ((λ e. tt), (λ u. refl))
boxes-iff (l ∷ b ∷ r ∷ t ∷ zs) = (
  (λ e.
      let x = (and-iff _ _).0 e in
      let y = (and-iff _ _).0 x.0 in
      ((le_iff l r).0 y.0, (le_iff b t).0 y.1, (boxes-iff zs).0 x.1)),
  (λ h. (and-iff _ _).1 ((and-iff _ _).1 ((le_iff l r).1 h.0, (le_iff b t).1 h.1), (boxes-iff zs).1 h.2)),
)

-- four bytes are one long
count-is : (l : List ℕ) → length l ≡ 4 → ones (longs_of l) ≡ le_z (pos 1) (long_of l)
unfolding ones longs_of
count-is [] e = absurd (omega arith)
count-is (a ∷ []) e = absurd (omega arith)
count-is (a ∷ b ∷ []) e = absurd (omega arith)
count-is (a ∷ b ∷ c ∷ []) e = absurd (omega arith)
count-is (a ∷ b ∷ c ∷ d ∷ []) e = and-true (le_z (pos 1) (long_of (a ∷ b ∷ c ∷ d ∷ [])))
count-is (a ∷ b ∷ c ∷ d ∷ x ∷ l) e = absurd (omega arith)

-- ---- the fields by their offsets

-- a record of these bytes
module _ (a s t fl : ℕ) (body : List ℕ) where
  abbrev rec : List ℕ
  rec = a ∷ s ∷ t ∷ fl ∷ body

  abbrev kept : ℕ → List Field → Bool
  kept n fs = keeps n (cut_at fs 0 body)

  -- rule 9

  abbrev dates : Kind → Bool
  dates k = every (λ at. good_date (part at 8 rec)) (dates_at k)

  -- an SREF has no dates and no polygon
  sref-none : (x y z : Bool) → let fs = layout Sref (flagged x y z) in (kept 9 fs ≡ true) × (kept 12 fs ≡ true)
  unfolding keeps rule_of good width layout
  sref-none true true true = (refl, refl)
  sref-none true true false = (refl, refl)
  sref-none true false true = (refl, refl)
  sref-none true false false = (refl, refl)
  sref-none false true true = (refl, refl)
  sref-none false true false = (refl, refl)
  sref-none false false true = (refl, refl)
  sref-none false false false = (refl, refl)

  dates-same : (k : Kind) → kept 9 (layout k fl) ≡ dates k
  unfolding keeps rule_of good width layout dates_at
  dates-same Library = refl
  dates-same Struct = refl
  dates-same Cprpty = refl
  dates-same Property = refl
  dates-same Layer = refl
  dates-same Box = refl
  dates-same Poly = refl
  dates-same Wire = refl
  dates-same Text = refl
  dates-same Sref = (by_flags (λ fs ss cs at. (kept 9 fs ≡ true) × (kept 12 fs ≡ true)) sref-none fl).0
  dates-same Endlib = refl

  -- rule 10

  abbrev scale : ℕ → Bool
  scale at = positive_real (part at 8 rec)

  abbrev counted : ℕ → Bool
  counted at = ones (longs_of (part at 4 rec))

  abbrev box : ℕ → Bool
  box at = in_order (longs_of (drop at rec))

  numbers : List ℕ → List ℕ → List ℕ → Bool
  numbers ss cs bs = every scale ss && (every counted cs && every box bs)

  -- a scale and then counts, or one of the two
  both-kinds : (p q : Bool) → (p && q) ≡ (p && true && (q && true))
  both-kinds true q = sym (and-true q)
  both-kinds false q = refl

  sref-numbers : (x y z : Bool) → let g = flagged x y z in kept 10 (layout Sref g) ≡ numbers (scales_at Sref g) (counts_at Sref g) []
  unfolding keeps rule_of good passes width layout scales_at counts_at numbers
  sref-numbers true true true = both-kinds (scale 20) (every counted (28 ∷ 32 ∷ []))
  sref-numbers true true false = sym (and-true _)
  sref-numbers true false true = sym (and-true _)
  sref-numbers true false false = refl
  sref-numbers false true true = both-kinds (scale 12) (every counted (20 ∷ 24 ∷ []))
  sref-numbers false true false = sym (and-true _)
  sref-numbers false false true = sym (and-true _)
  sref-numbers false false false = refl

  numbers-same : (k : Kind) → kept 10 (layout k fl) ≡ numbers (scales_at k fl) (counts_at k fl) (boxes_at k)
  unfolding keeps rule_of good passes width layout scales_at counts_at boxes_at numbers
  numbers-same Library = sym (and-true _)
  numbers-same Struct = refl
  numbers-same Cprpty = refl
  numbers-same Property = refl
  numbers-same Layer = refl
  numbers-same Box = ap (λ (l : List ℕ). in_order (longs_of l) && true) (sym (whole body))
  numbers-same Poly = refl
  numbers-same Wire = refl
  numbers-same Text = refl
  numbers-same Sref = by_flags (λ fs ss cs at. kept 10 fs ≡ numbers ss cs []) sref-numbers fl
  numbers-same Endlib = refl

  -- rule 11

  abbrev strings : List ℕ → Bool
  strings l = every (λ at. good_string (drop at rec)) l

  -- a string up to the end
  ends : (at : ℕ) → (good_string (take (length body - at) (drop at body)) && true) ≡ (good_string (drop at body) && true)
  ends at = ap (λ (l : List ℕ). good_string l && true) (sym (ending body at))

  sref-strings : (x y z : Bool) → let g = flagged x y z in kept 11 (layout Sref g) ≡ strings (name_at g ∷ [])
  unfolding keeps rule_of good width layout
  sref-strings true true true = ends 48
  sref-strings true true false = ends 24
  sref-strings true false true = ends 40
  sref-strings true false false = ends 16
  sref-strings false true true = ends 40
  sref-strings false true false = ends 16
  sref-strings false false true = ends 32
  sref-strings false false false = ends 8

  -- "name or nothing"
  layer-string : (n : ℕ) → 4 + length body ≡ n → (good optional (drop 4 body) && true) ≡ strings (cond (leb n 8) [] (8 ∷ []))
  unfolding good
  layer-string n e = go (drop 4 body) refl
    where
      go : (l : List ℕ) → drop 4 body ≡ l → (good optional l && true) ≡ every (λ (at : ℕ). good_string (drop at rec)) (cond (leb n 8) [] (8 ∷ []))
      go [] q = let z : leb n 8 ≡ true = le-leb n 8 (omega (arith, length-drop 4 body, ap length q)) in rw z refl
      go (x ∷ l) q = let z : leb n 8 ≡ false = lt-leb n 8 (omega (arith, length-drop 4 body, ap length q)) in rw z (ap (λ (l : List ℕ). good_string l && true) (sym q))

  strings-same : (k : Kind) (n : ℕ) → 4 + length body ≡ n → kept 11 (layout k fl) ≡ strings (strings_at k fl n)
  unfolding keeps rule_of good width layout strings_at
  strings-same Library n e = ends 32
  strings-same Struct n e = ends 16
  strings-same Cprpty n e = ends 4
  strings-same Property n e = ends 4
  strings-same Layer n e = ap (λ (l : List ℕ). good optional l && true) (sym (ending body 4)) ∙ layer-string n e
  strings-same Box n e = refl
  strings-same Poly n e = refl
  strings-same Wire n e = refl
  strings-same Text n e = ends 12
  strings-same Sref n e = by_flags (λ fs ss cs at. kept 11 fs ≡ strings (at ∷ [])) sref-strings fl
  strings-same Endlib n e = refl

  -- rule 12

  abbrev polygons : ℕ → List ℕ → Bool
  polygons n l = every (λ at. same (part at 8 rec) (part (n - 8) 8 rec)) l

  last-eight : (n : ℕ) → 4 + length body ≡ n → 12 ≤ n → drop (length body - 8) body ≡ part (n - 8) 8 rec
  last-eight n e h =
      let d = length body - 8 in
      let q : suc (suc (suc (suc d))) ≡ n - 8 = omega arith in
      sym (take_all 8 (drop d body) (omega (arith, length-drop d body))) ∙ ap (λ (m : ℕ). part m 8 rec) q

  polygons-same : (k : Kind) (n : ℕ) → 4 + length body ≡ n → good_size k fl n ≡ true → kept 12 (layout k fl) ≡ polygons n (polygons_at k)
  unfolding keeps rule_of good passes width layout polygons_at good_size
  polygons-same Library n e g = refl
  polygons-same Struct n e g = refl
  polygons-same Cprpty n e g = refl
  polygons-same Property n e g = refl
  polygons-same Layer n e g = refl
  polygons-same Box n e g = refl
  polygons-same Poly n e g =
      let least = leb-true 36 n ((and-iff _ _).0 ((and-iff _ _).0 g).0).0 in
      ap (λ (l : List ℕ). same (take 8 l) (drop (length l - 8) l) && true) (sym (whole body))
      ∙ ap (λ (l : List ℕ). same (take 8 body) l && true) (last-eight n e (omega arith))
  polygons-same Wire n e g = refl
  polygons-same Text n e g = refl
  polygons-same Sref n e g = (by_flags (λ fs ss cs at. (kept 9 fs ≡ true) × (kept 12 fs ≡ true)) sref-none fl).1
  polygons-same Endlib n e g = refl

  -- ---- the rules

  -- where the size is good, the counts are in the record
  counts-inside : (k : Kind) (n : ℕ) → good_size k fl n ≡ true → All (λ at. at + 4 ≤ n) (counts_at k fl)
  unfolding good_size counts_at
  counts-inside Library n g = tt
  counts-inside Struct n g = tt
  counts-inside Cprpty n g = tt
  counts-inside Property n g = tt
  counts-inside Layer n g = tt
  counts-inside Box n g = tt
  counts-inside Poly n g = tt
  counts-inside Wire n g = tt
  counts-inside Text n g = tt
  counts-inside Sref n g = go (has_array fl) g
    where
      go : (z : Bool) → leb (cols_at fl + cond z 24 0 + 2) n ≡ true → All (λ (at : ℕ). at + 4 ≤ n) (cond z (cols_at fl ∷ (cols_at fl + 4) ∷ []) [])
      go true e = let l = leb-true (cols_at fl + 24 + 2) n e in (omega arith, (omega arith, tt))
      go false e = tt
  counts-inside Endlib n g = tt

  abbrev held : ℕ → Kind → Bool
  held n k = keeps n (pieces (layout k fl) body)

  held-is : (n : ℕ) (k : Kind) → held n k ≡ kept n (layout k fl)
  held-is n k = ap (keeps n) (cut-is (layout k fl) body)

  pub dates-iff : (k : Kind) → (held 9 k ≡ true) ↔ DatesGood k rec
  dates-iff k = iff-by (held-is 9 k ∙ dates-same k) (each-iff (λ at. good_date (part at 8 rec)) (λ at. IsDate (part at 8 rec)) (λ at. date-iff (part at 8 rec)) (dates_at k))

  module _ (k : Kind) (long : 4 + length body ≡ a * 256 + s) where
    pub numbers-iff : good_size k fl (a * 256 + s) ≡ true → (held 10 k ≡ true) ↔ NumbersGood k rec
    unfolding numbers
    numbers-iff g = iff-by (held-is 10 k ∙ numbers-same k) (
      (λ e.
          let e₁ = (and-iff _ _).0 e in
          let e₂ = (and-iff _ _).0 e₁.1 in
          record { scales = ss.0 e₁.0; counts = cs.0 e₂.0; boxes = bs.0 e₂.1 }),
      (λ h. (and-iff _ _).1 (ss.1 h.scales, (and-iff _ _).1 (cs.1 h.counts, bs.1 h.boxes))),
    )
      where
        ss : (every scale (scales_at k fl) ≡ true) ↔ All (λ (at : ℕ). pos 0 <ℤ real_of (part at 8 rec)) (scales_at k fl)
        ss = each-iff scale _ (λ at. real-iff (part at 8 rec)) (scales_at k fl)

        inside : (at : ℕ) → at + 4 ≤ a * 256 + s → (counted at ≡ true) ↔ (pos 1 ≤ℤ long_of (part at 4 rec))
        inside at l = iff-by (count-is (part at 4 rec) (length-take-le 4 (drop at rec) (omega (arith, length-drop at rec)))) (le_iff (pos 1) (long_of (part at 4 rec)))

        cs : (every counted (counts_at k fl) ≡ true) ↔ All (λ (at : ℕ). pos 1 ≤ℤ long_of (part at 4 rec)) (counts_at k fl)
        cs = every-iff counted _ (λ (at : ℕ). at + 4 ≤ a * 256 + s) inside (counts_at k fl) (counts-inside k (a * 256 + s) g)

        bs : (every box (boxes_at k) ≡ true) ↔ All (λ (at : ℕ). Boxes (longs_of (drop at rec))) (boxes_at k)
        bs = each-iff box _ (λ at. boxes-iff (longs_of (drop at rec))) (boxes_at k)

    pub strings-iff : (held 11 k ≡ true) ↔ StringsGood k rec
    strings-iff =
        iff-by (held-is 11 k ∙ strings-same k (a * 256 + s) long)
        (each-iff (λ at. good_string (drop at rec)) (λ at. HoldsText (drop at rec)) (λ at. string-iff (drop at rec)) (strings_at k fl (a * 256 + s)))

    pub polygons-iff : good_size k fl (a * 256 + s) ≡ true → (held 12 k ≡ true) ↔ PolygonsGood k rec
    polygons-iff g =
        let last = part (a * 256 + s - 8) 8 rec in
        iff-by (held-is 12 k ∙ polygons-same k (a * 256 + s) long g)
        (each-iff (λ at. same (part at 8 rec) last) (λ at. part at 8 rec ≡ last) (λ at. same-iff (part at 8 rec) last) (polygons_at k))
