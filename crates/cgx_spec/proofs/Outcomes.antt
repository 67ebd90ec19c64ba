-- The rules 6 to 12 of a record one after another: the first that is broken is the first check that fails. Assumes nothing.
use Rattle.std.specs.Prelude.{None, Option, Some}
use mathlib.Core.Path.{◌≡◌, refl, sym, ap, ◌∙◌, subst}
use mathlib.Core.Logic.Iff
use mathlib.Core.Logic.{◌↔◌}
use mathlib.Core.Bool.{Bool, true, false, cond}
use mathlib.Core.List.{List, [], ◌∷◌}
use Prim.Native.Nat.{ℕ, suc, ◌+◌, ◌*◌, ◌-◌, ◌%◌, ◌≤◌, ◌<◌}
use native.Mathlib.Omega.{arith}
use borrow.Author.Tests.{leb-true, le-leb}
use lib.ListN.{length, take}
use Rattle.cgx_spec.specs.declared.Kind.{Kind}
use Rattle.cgx_spec.specs.Fields.{Piece, All, lengths_fit, keeps}
use Rattle.cgx_spec.specs.Kinds.{kind_of, good_flags}
use Rattle.cgx_spec.specs.Order.{allowed}
use Rattle.cgx_spec.specs.Records.{Rec, size, pieces_of, Rule, rule, broken, rules, fault_of}
use Rattle.cgx_spec.specs.Restated.{type_byte, good_size, highest_flags, RecordBefore, look_back}
use Rattle.cgx_spec.specs.Checks.{FirstFails, record_in, DatesGood, NumbersGood, StringsGood, PolygonsGood, Check, in_order, flags_good, body_length, dates_good, numbers_good, strings_good, poly_closed, number_of, OfKind, Passes, rule_checks}
use Rattle.cgx_spec.proofs.Demand3.{unknown-kind}
use Rattle.cgx_spec.proofs.Agreement.{agreement}
use Rattle.cgx_spec.proofs.Firsts.{clash, iff-by, first-here, first-later}
use Rattle.cgx_spec.proofs.Needs.{by-type, type-below, order-iff}
use Rattle.cgx_spec.proofs.Located.{dates-iff, numbers-iff, strings-iff, polygons-iff}

-- ---- what is asked of the kind of a type

pub same_kind : (k l : Kind) → type_byte k ≡ type_byte l → k ≡ l
same_kind k l e = let z : Some k ≡ Some l = sym (agreement.types k) ∙ ap kind_of e ∙ agreement.types l in cc

of-kind : (k : Kind) (Q : Kind → Type 0) → Q k ↔ OfKind (type_byte k) Q
of-kind k Q = ((λ q l e. subst Q (same_kind k l e) q), (λ h. h k refl))

of-unknown : (t : ℕ) (Q : Kind → Type 0) → 11 ≤ t → OfKind t Q
of-unknown t Q h k e = absurd (let b = type-below k in omega arith)

-- ---- the rules 7 and 8

flags-iff : (k : Kind) (fl : ℕ) → fl < 256 → (good_flags k fl ≡ true) ↔ (fl ≤ highest_flags k)
flags-iff k fl h = iff-by (agreement.flags k fl h) (leb-true fl (highest_flags k), le-leb fl (highest_flags k))

length-iff : (k : Kind) (r : Rec) (n : ℕ) → size r ≡ n → length r.body % 2 ≡ 0 → length r.body ≤ 65530 → (lengths_fit (pieces_of k r) ≡ true) ↔ (good_size k r.flags n ≡ true)
length-iff k r n q e l = iff-by (agreement.sizes k r e l ∙ ap (good_size k r.flags) q) ((λ h. h), (λ h. h))

-- ---- one after another

-- the first rule of a list that is broken is the first check that fails
abbrev pub Outcome : (Check → Type 0) → List Check → Option ℕ → Type 0
Outcome P l None = All P l
Outcome P l (Some n) = (x : Check) × (n ≡ number_of x) × FirstFails P l x

chain : (P : Check → Type 0) (x : Check) (v : Bool) (l : List Check) (rs : List Rule) → (v ≡ true) ↔ P x → (P x → Outcome P l (broken rs)) → Outcome P (x ∷ l) (broken (rule (number_of x) v ∷ rs))
unfolding broken
chain P x v l rs iff h = go v iff
  where
    more : P x → (o : Option ℕ) → Outcome P l o → Outcome P (x ∷ l) o
    more p None y = (p, y)
    more p (Some n) y = (y.0, y.1, first-later p y.2)

    go : (v : Bool) → (v ≡ true) ↔ P x → Outcome P (x ∷ l) (cond v (broken rs) (Some (number_of x)))
    go true i = let p = i.0 refl in more p (broken rs) (h p)
    go false i = (x, refl, first-here x l (λ p. clash (i.1 p) refl))

no_more : (P : Check → Type 0) → Outcome P [] (broken [])
unfolding broken
no_more P = tt

-- ---- a record that lies in the file

module _ (bs : List RecordBefore) (a s fl : ℕ) (more : List ℕ) where
  abbrev bytes : ℕ → List ℕ
  bytes t = a ∷ s ∷ t ∷ fl ∷ more

  abbrev body : List ℕ
  body = take (a * 256 + s - 4) more

  abbrev pub rec_from : ℕ → Rec
  rec_from t = record { type = t; flags = fl; body = body }

  pub record Whole : Type 0 where
    pub even : length body % 2 ≡ 0
    pub small : length body ≤ 65530
    pub long : 4 + length body ≡ a * 256 + s
    pub flags-byte : fl < 256

  abbrev Result : ℕ → Type 0
  Result t = Outcome (Passes bs (bytes t)) rule_checks (fault_of (look_back bs) (rec_from t))

  module _ (w : Whole) where
    -- its bytes
    whole_is : (t : ℕ) → a ∷ s ∷ t ∷ fl ∷ body ≡ record_in (bytes t)
    whole_is t = let e : suc (suc (suc (suc (a * 256 + s - 4)))) ≡ a * 256 + s = (let l = w.long in omega arith) in ap (λ (n : ℕ). take n (bytes t)) e

    -- a rule of the kind, asked of all the record's bytes
    asked : (k : Kind) (Q : Kind → List ℕ → Type 0) {v : Bool} → (v ≡ true) ↔ Q k (a ∷ s ∷ type_byte k ∷ fl ∷ body) → (v ≡ true) ↔ OfKind (type_byte k) (λ l. Q l (record_in (bytes (type_byte k))))
    asked k Q i =
        Iff.trans i
        (Iff.trans (subst (Q k) (whole_is (type_byte k)), subst (Q k) (sym (whole_is (type_byte k)))) (of-kind k (λ l. Q l (record_in (bytes (type_byte k))))))

    of-known : (k : Kind) → Result (type_byte k)
    unfolding rules pieces_of
    of-known k =
        subst (λ (o : Option Kind). Outcome P rule_checks (broken (rules (allowed (look_back bs) (kind_of t)) o r))) (sym (agreement.types k))
        (chain P in_order (allowed (look_back bs) (kind_of t)) (flags_good ∷ body_length ∷ dates_good ∷ numbers_good ∷ strings_good ∷ poly_closed ∷ []) _ (order-iff bs t) (λ p₆.
        chain P flags_good (good_flags k fl) (body_length ∷ dates_good ∷ numbers_good ∷ strings_good ∷ poly_closed ∷ []) _ (Iff.trans (flags-iff k fl w.flags-byte) (of-kind k (λ l. fl ≤ highest_flags l))) (λ p₇.
        chain P body_length (lengths_fit ps) (dates_good ∷ numbers_good ∷ strings_good ∷ poly_closed ∷ []) _ (Iff.trans (length-iff k r n w.long w.even w.small) (of-kind k (λ l. good_size l fl n ≡ true))) (λ p₈.
        chain P dates_good (keeps 9 ps) (numbers_good ∷ strings_good ∷ poly_closed ∷ []) _ (asked k DatesGood (dates-iff a s t fl body k)) (λ p₉.
        chain P numbers_good (keeps 10 ps) (strings_good ∷ poly_closed ∷ []) _ (asked k NumbersGood (numbers-iff a s t fl body k w.long (p₈ k refl))) (λ p₁₀.
        chain P strings_good (keeps 11 ps) (poly_closed ∷ []) _ (asked k StringsGood (strings-iff a s t fl body k w.long)) (λ p₁₁.
        chain P poly_closed (keeps 12 ps) [] [] (asked k PolygonsGood (polygons-iff a s t fl body k w.long (p₈ k refl))) (λ p₁₂. no_more P))))))))
      where
        t : ℕ
        t = type_byte k

        P : Check → Type 0
        P = Passes bs (bytes t)

        r : Rec
        r = rec_from t

        ps : List Piece
        ps = pieces_of k r

        n : ℕ
        n = a * 256 + s

    of_none : (t : ℕ) → 11 ≤ t → Result t
    unfolding rules broken
    of_none t h =
        subst (λ (o : Option Kind). Outcome P rule_checks (broken (rules (allowed (look_back bs) (kind_of t)) o (rec_from t)))) (sym (unknown-kind t h))
        (chain P in_order (allowed (look_back bs) (kind_of t)) (flags_good ∷ body_length ∷ dates_good ∷ numbers_good ∷ strings_good ∷ poly_closed ∷ []) [] (order-iff bs t)
        (λ p. (of-unknown t _ h, (of-unknown t _ h, (of-unknown t _ h, (of-unknown t _ h, (of-unknown t _ h, (of-unknown t _ h, tt))))))))
      where
        P : Check → Type 0
        P = Passes bs (bytes t)

    pub rules-outcome : (t : ℕ) → Result t
    rules-outcome t = by-type Result of-known of_none t
