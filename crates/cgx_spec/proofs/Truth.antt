-- The verdict on every file is true by 01's checks: of one step, of a walk, of a file. Assumes nothing.
use Rattle.std.specs.Prelude.{None, Option, Some, Ok, Err}
use mathlib.Core.Path.{◌≡◌, refl, sym, ap, ◌∙◌, subst}
use mathlib.Core.Logic.{inl, inr}
use mathlib.Core.Bool.{Bool, true, false, ◌&&◌, ◌||◌, cond}
use mathlib.Core.List.{List, [], ◌∷◌}
use Prim.Native.Nat.{ℕ, zero, suc, ◌+◌, ◌*◌, ◌-◌, ◌%◌, ◌≤◌, ◌<◌}
use native.Mathlib.Omega.{arith}
use borrow.Author.Tests.{ltb-true, ltb-false, eqb-true, eqb-false, eq-eqb, ne_eqb, le-ltb}
use lib.Dec.{ltb, eqb, eqb→eq}
use lib.ListN.{length, take, drop, length-drop}
use lib.Seq.{drop-drop, length-take-le}
use Rattle.cgx_spec.specs.declared.Kind.{Kind}
use Rattle.cgx_spec.specs.declared.Context.{Context}
use Rattle.cgx_spec.specs.Verdicts.{Verdict}
use Rattle.cgx_spec.specs.Verdicts.{accepted, refused}
use Rattle.cgx_spec.specs.Numbers.{Bytes}
use Rattle.cgx_spec.specs.Fields.{All}
use Rattle.cgx_spec.specs.Kinds.{kind_of}
use Rattle.cgx_spec.specs.Order.{next}
use Rattle.cgx_spec.specs.Records.{Rec, size, Placed, fault_of, context_after}
use Rattle.cgx_spec.specs.Files.{bad, found, cut, cut_body, Step, stop, go, settle, judge, finish, step, walk, opening, opened, begin, walk_of, verdict_of}
use Rattle.cgx_spec.specs.Restated.{type_byte, RecordBefore, end_before, look_back}
use Rattle.cgx_spec.specs.Checks.{FirstFails, size_in, type_in, Check, cgx_first, level_zero, some_left, whole_header, size_good, size_inside, none_left, number_of, Passes, file_checks, rule_checks, record_checks, checks_at, GoodAt, GoodUpTo, begun, known_next, unknown_next, Stopped, True}
use Rattle.cgx_spec.proofs.Lists.{true→T, and_left, and_right, or_left_false, or_right_false, Bytes-drop}
use Rattle.cgx_spec.proofs.Steps.{StepAt, step-at}
use Rattle.cgx_spec.proofs.Agreement.{agreement, onto, next-looks, start-looks}
use Rattle.cgx_spec.proofs.Firsts.{clash, first-here, first-later}
use Rattle.cgx_spec.proofs.Needs.{by-type}
use Rattle.cgx_spec.proofs.Outcomes.{Outcome, Whole, rules-outcome}

-- ---- one step

-- the first check that fails, by the number of a refusal
record Found (bs : List RecordBefore) (b : List ℕ) (l : List Check) (n : ℕ) : Type 0 where
  check : Check
  number : n ≡ number_of check
  first : FirstFails (Passes bs b) l check

abbrev StepTruth : Bool → List RecordBefore → List ℕ → ℕ → Step → Type 0
StepTruth z bs b at (stop (Ok _)) = (z ≡ true) × (length b ≡ 0)
StepTruth z bs b at (stop (Err r)) = (r.at ≡ at) × Found bs b (checks_at z) r.number
StepTruth z bs b at (go p rest) = (z ≡ false) × All (Passes bs b) record_checks × (size p.rec ≡ size_in b) × (p.rec.type ≡ type_in b)

few : (bs : List RecordBefore) (b : List ℕ) → 1 ≤ length b → length b < 4 → Found bs b record_checks 4
few bs b h l = record { check = whole_header; number = refl; first = first-later h (first-here whole_header _ (λ p. omega arith)) }

judged : (bs : List RecordBefore) (at : ℕ) (b : List ℕ) → Bytes b → StepTruth false bs b at (judge (look_back bs) at (cut b))
unfolding judge cut cut_body settle
judged bs at [] h = (refl, record { check = some_left; number = refl; first = first-here some_left _ (λ p. omega arith) })
judged bs at (a ∷ []) h = (refl, few bs (a ∷ []) (omega arith) (omega arith))
judged bs at (a ∷ s ∷ []) h = (refl, few bs (a ∷ s ∷ []) (omega arith) (omega arith))
judged bs at (a ∷ s ∷ t ∷ []) h = (refl, few bs (a ∷ s ∷ t ∷ []) (omega arith) (omega arith))
judged bs at (a ∷ s ∷ t ∷ fl ∷ more) h = one (eqb (n % 2) 1 || ltb n 4) refl
  where
    n : ℕ
    n = a * 256 + s

    b : List ℕ
    b = a ∷ s ∷ t ∷ fl ∷ more

    r : Rec
    r = record { type = t; flags = fl; body = take (n - 4) more }

    rest : List ℕ
    rest = drop (n - 4) more

    three : length (take (n - 4) more) ≡ n - 4 → n % 2 ≡ 0 → 4 ≤ n → n ≤ length b → (o : Option ℕ) → Outcome (Passes bs b) rule_checks o → StepTruth false bs b at (settle (look_back bs) at r rest o)
    three l ev le ins None y = (refl, (omega arith, (omega arith, ((ev, le), (ins, y)))), omega arith, refl)
    three l ev le ins (Some m) y =
        (refl, record { check = y.0; number = y.1; first = first-later (omega arith) (first-later (omega arith) (first-later (ev, le) (first-later ins y.2))) })

    two : (z : Bool) → ltb (length more) (n - 4) ≡ z → n % 2 ≡ 0 → 4 ≤ n → StepTruth false bs b at (judge (look_back bs) at (cond z (bad 4) (found r rest)))
    two true e ev le =
        let l = ltb-true (length more) (n - 4) e in
        (refl, record { check = size_inside; number = refl; first = first-later (omega arith) (first-later (omega arith) (first-later (ev, le) (first-here size_inside _ (λ p. omega arith)))) })
    two false e ev le =
        let l = ltb-false (length more) (n - 4) e in
        let m : length (take (n - 4) more) ≡ n - 4 = length-take-le (n - 4) more l in
        let ha : a < 256 = h 0 in
        let hs : s < 256 = h 1 in
        let w : Whole bs a s fl more = record { even = omega arith; small = omega arith; long = omega arith; flags-byte = h 3 } in
        three m ev le (omega arith) (fault_of (look_back bs) r) (rules-outcome bs a s fl more w t)

    one : (y : Bool) → (eqb (n % 2) 1 || ltb n 4) ≡ y → StepTruth false bs b at (judge (look_back bs) at (cond y (bad 5) (cond (ltb (length more) (n - 4)) (bad 4) (found r rest))))
    one true e =
        (refl, record { check = size_good; number = refl; first = first-later (omega arith) (first-later (omega arith) (first-here size_good _ no)) })
      where
        no : (n % 2 ≡ 0) × (4 ≤ n) → ⊥
        no p =
            let ev = p.0 in
            let x : eqb (n % 2) 1 ≡ false = ne_eqb (n % 2) 1 (λ q. omega arith) in
            let y : ltb n 4 ≡ false = le-ltb n 4 p.1 in
            clash (rw (x, y) at e) refl
    one false e =
        let odd = eqb-false (n % 2) 1 (or_left_false (eqb (n % 2) 1) (ltb n 4) e) in
        two (ltb (length more) (n - 4)) refl (omega arith) (ltb-false n 4 (or_right_false (eqb (n % 2) 1) (ltb n 4) e))

step-truth : (bs : List RecordBefore) (at : ℕ) (b : List ℕ) → Bytes b → StepTruth (end_before bs) bs b at (step (look_back bs) at b)
unfolding step finish
step-truth bs at b h = subst (λ (z : Bool). StepTruth z bs b at (step (look_back bs) at b)) (ended_is bs) (one (look_back bs).ended)
  where
    ended_is : (bs : List RecordBefore) → (look_back bs).ended ≡ end_before bs
    ended_is bs = unfold look_back in refl

    end : (b : List ℕ) → StepTruth true bs b at (stop (finish at b))
    end [] = (refl, refl)
    end (x ∷ b) = (refl, record { check = none_left; number = refl; first = first-here none_left [] (λ p. omega arith) })

    one : (z : Bool) → StepTruth z bs b at (cond z (stop (finish at b)) (judge (look_back bs) at (cut b)))
    one true = end b
    one false = judged bs at b h

-- ---- one good record more

-- the known records before, by the type of one more
abbrev pub onward : ℕ → ℕ → List RecordBefore → List RecordBefore
onward t at bs = onto (kind_of t) at bs

pub onward-known : (k : Kind) (t at : ℕ) (bs : List RecordBefore) → t ≡ type_byte k → onward t at bs ≡ record { kind = k; at = at } ∷ bs
onward-known k t at bs e = ap (λ (o : Option Kind). onto o at bs) (ap kind_of e ∙ agreement.types k)

pub onward-unknown : (t at : ℕ) (bs : List RecordBefore) → 11 ≤ t → onward t at bs ≡ bs
onward-unknown t at bs h = ap (λ (o : Option Kind). onto o at bs) (agreement.unknown t h)

further : {f : List ℕ} {bs : List RecordBefore} {at : ℕ} → GoodUpTo f bs at → GoodAt f bs at → GoodUpTo f (onward (type_in (drop at f)) at bs) (at + size_in (drop at f))
further {f} {bs} {at} g h = by-type (λ (t : ℕ). type_in b ≡ t → Leads) known unknown (type_in b) refl
  where
    b : List ℕ
    b = drop at f

    Leads : Type 0
    Leads = GoodUpTo f (onward (type_in b) at bs) (at + size_in b)

    known : (k : Kind) → type_in b ≡ type_byte k → Leads
    known k e = subst (λ (l : List RecordBefore). GoodUpTo f l (at + size_in b)) (sym (onward-known k (type_in b) at bs e)) (known_next k g h e)

    unknown : (t : ℕ) → 11 ≤ t → type_in b ≡ t → Leads
    unknown t l e =
        let m : 11 ≤ type_in b = omega arith in
        subst (λ (l : List RecordBefore). GoodUpTo f l (at + size_in b)) (sym (onward-unknown (type_in b) at bs m)) (unknown_next g h m)

-- ---- a walk

module _ (f : List ℕ) (h : Bytes f) where
  abbrev Told : ℕ → Context → ℕ → List ℕ → Type 0
  Told k c at b = True f (walk k (step c at b)).verdict

  abbrev Going : ℕ → Type 0
  Going k = (bs : List RecordBefore) (at : ℕ) → GoodUpTo f bs at → at ≤ length f → length (drop at f) ≤ k → Told k (look_back bs) at (drop at f)

  stopped : (bs : List RecordBefore) (at : ℕ) → GoodUpTo f bs at → at ≤ length f → (v : Verdict) → StepTruth (end_before bs) bs (drop at f) at (stop v) → True f v
  stopped bs at g l (Ok _) s = record { before = bs; good = subst (GoodUpTo f bs) (let z = s.1 in omega (arith, length-drop at f)) g; last = s.0 }
  stopped bs at g l (Err r) s =
      let x = s.1 in
      inr (subst (Stopped f r.number) (sym s.0) (record { before = bs; earlier = g; check = x.check; number = x.number; first = x.first }))

  went : (k : ℕ) → Going k → (bs : List RecordBefore) (at : ℕ) → GoodUpTo f bs at → at ≤ length f → length (drop at f) ≤ suc k → (p : Placed) (rest : List ℕ) → StepTruth (end_before bs) bs (drop at f) at (go p rest) → StepAt (drop at f) (look_back bs) at (go p rest) → Told k (context_after p) (p.at + size p.rec) rest
  unfolding context_after
  went k ih bs at g l m p rest s a =
      subst (λ (b : List ℕ). Told k (context_after p) (p.at + size p.rec) b) (sym (a.0 ∙ drop-drop (size p.rec) at f ∙ ap (λ (n : ℕ). drop (at + n) f) s.2))
      (subst (λ (n : ℕ). Told k (context_after p) n (drop to f)) (sym at-is)
      (subst (λ (c : Context). Told k c to (drop to f)) (sym context-is) (ih (onward (type_in (drop at f)) at bs) to (further g (record { running = s.0; good = s.1 })) inside less)))
    where
      to : ℕ
      to = at + size_in (drop at f)

      at-is : p.at + size p.rec ≡ to
      at-is = let x = a.3 in let y = s.2 in omega arith

      context-is : context_after p ≡ look_back (onward (type_in (drop at f)) at bs)
      context-is =
          ap (λ (c : Context). next c p.at (kind_of p.rec.type)) a.4
          ∙ ap (λ (n : ℕ). next (look_back bs) n (kind_of p.rec.type)) a.3
          ∙ ap (λ (t : ℕ). next (look_back bs) at (kind_of t)) s.3
          ∙ next-looks (kind_of (type_in (drop at f))) at bs

      inside : to ≤ length f
      inside = let x = a.1 in let y = s.2 in omega (arith, length-drop at f)

      less : length (drop to f) ≤ k
      less = let x = a.1 in let y = s.2 in omega (arith, length-drop at f, length-drop to f)

  walk-truth : (k : ℕ) → Going k
  unfolding walk
  walk-truth zero = λ bs at g l m. turn bs at g l m (step (look_back bs) at (drop at f)) (step-truth bs at (drop at f) (Bytes-drop at f h)) (step-at (look_back bs) at (drop at f))
    where
      turn : (bs : List RecordBefore) (at : ℕ) → GoodUpTo f bs at → at ≤ length f → length (drop at f) ≤ 0 → (st : Step) → StepTruth (end_before bs) bs (drop at f) at st → StepAt (drop at f) (look_back bs) at st → True f (walk 0 st).verdict
      turn bs at g l m (stop v) s a = stopped bs at g l v s
      turn bs at g l m (go p rest) s a = absurd (let x = a.1 in omega arith)
  walk-truth (suc k) = λ bs at g l m. turn bs at g l m (step (look_back bs) at (drop at f)) (step-truth bs at (drop at f) (Bytes-drop at f h)) (step-at (look_back bs) at (drop at f)) (walk-truth k)
    where
      turn : (bs : List RecordBefore) (at : ℕ) → GoodUpTo f bs at → at ≤ length f → length (drop at f) ≤ suc k → (st : Step) → StepTruth (end_before bs) bs (drop at f) at st → StepAt (drop at f) (look_back bs) at st → Going k → True f (walk (suc k) st).verdict
      turn bs at g l m (stop v) s a ih = stopped bs at g l v s
      turn bs at g l m (go p rest) s a ih = went k ih bs at g l m p rest s a

-- ---- a file

-- 1 and 2
no-begin : (f : List ℕ) (k : ℕ) (x : Check) → FirstFails (Passes [] f) file_checks x → True f (walk k (stop (refused (number_of x) 0))).verdict
unfolding walk
no-begin f zero x n = inl (record { check = x; number = refl; place = refl; first = n })
no-begin f (suc k) x n = inl (record { check = x; number = refl; place = refl; first = n })

short : (f : List ℕ) (k : ℕ) → length f < 4 → True f (walk k (stop (refused 1 0))).verdict
short f k l = no-begin f k cgx_first (first-here cgx_first _ (λ p. omega arith))

pub truth : (f : List ℕ) → Bytes f → True f (verdict_of f)
unfolding verdict_of walk_of begin opening
truth [] h = short [] 0 (omega arith)
truth (a ∷ []) h = short (a ∷ []) 1 (omega arith)
truth (a ∷ b ∷ []) h = short (a ∷ b ∷ []) 2 (omega arith)
truth (a ∷ b ∷ c ∷ []) h = short (a ∷ b ∷ c ∷ []) 3 (omega arith)
truth (a ∷ b ∷ c ∷ l ∷ bs) h = one (eqb a 99 && eqb b 103 && eqb c 120) refl
  where
    f : List ℕ
    f = a ∷ b ∷ c ∷ l ∷ bs

    n : ℕ
    n = suc (suc (suc (suc (length bs))))

    two : (z : Bool) → eqb l 0 ≡ z → Passes [] f cgx_first → True f (walk n (opened (cond z 0 2) bs)).verdict
    two true e p =
        subst (λ (u : Context). Told f h n u 4 bs) (sym start-looks) (walk-truth f h n [] 4 (begun (p, (eqb-true l 0 e, tt))) (omega arith) (omega arith))
    two false e p = no-begin f n level_zero (first-later p (first-here level_zero _ (eqb-false l 0 e)))

    one : (z : Bool) → (eqb a 99 && eqb b 103 && eqb c 120) ≡ z → True f (walk n (opened (cond z (cond (eqb l 0) 0 2) 1) bs)).verdict
    one true e =
        let t = true→T e in
        let t₂ = and_left (eqb a 99 && eqb b 103) (eqb c 120) t in
        two (eqb l 0) refl (omega arith, eqb→eq a 99 (and_left (eqb a 99) (eqb b 103) t₂), eqb→eq b 103 (and_right (eqb a 99) (eqb b 103) t₂), eqb→eq c 120 (and_right (eqb a 99 && eqb b 103) (eqb c 120) t))
    one false e = no-begin f n cgx_first (first-here cgx_first _ no)
      where
        no : Passes [] f cgx_first → ⊥
        no p =
            let x : eqb a 99 ≡ true = eq-eqb a 99 p.1 in
            let y : eqb b 103 ≡ true = eq-eqb b 103 p.2 in
            let z : eqb c 120 ≡ true = eq-eqb c 120 p.3 in
            clash refl (rw (x, y, z) at e)
