-- A file is accepted exactly when it is `cgx`, 0 and the bytes of records that are good one after another.
use Rattle.std.specs.Prelude.{None, Option, Some}
use mathlib.Core.Path.{◌≡◌, refl, sym, ap, ap₂, ◌∙◌, subst}
use mathlib.Core.Bool.{Bool, true, false, not, ◌&&◌, ◌||◌, cond}
use mathlib.Core.List.{List, [], ◌∷◌, ◌++◌, map}
use Prim.Native.Nat.{ℕ, zero, suc, ◌+◌, ◌*◌, ◌/◌, ◌%◌, ◌-◌, ◌≤◌, ◌<◌}
use native.Mathlib.Nat.{zero-lt-suc, div-add-mod'}
use native.Mathlib.Omega.{arith}
use lib.Dec.{T, ltb, eqb, eqb→eq}
use lib.ListN.{length, take, drop, length-append, take-append-drop}
use lib.Seq.{length-take-le, take_at, drop_at}
use Rattle.cgx_spec.specs.declared.Kind.{Kind}
use Rattle.cgx_spec.specs.declared.Kind.TheVariants.{Library, Struct, Cprpty, Property, Layer, Box, Poly, Wire, Text, Sref, Endlib}
use Rattle.cgx_spec.specs.declared.Run.{Run}
use Rattle.cgx_spec.specs.declared.Context.{Context}
use Rattle.cgx_spec.specs.declared.Need.{Need}
use Rattle.cgx_spec.specs.declared.Need.TheVariants.{LibraryBefore, NoLibraryBefore, OpenCell, LayerInForce, NoneAwaiting, OnlyCprpty}
use Rattle.cgx_spec.specs.Verdicts.{accepted, refused}
use Rattle.cgx_spec.specs.Numbers.{Bytes}
use Rattle.cgx_spec.specs.Fields.{every, join}
use Rattle.cgx_spec.specs.Kinds.{kind_of, count}
use Rattle.cgx_spec.specs.Order.{start, present, awaiting, met, needs_of, allowed, longer, next, OrderFacts, facts_of}
use Rattle.cgx_spec.specs.Records.{Rec, size, bytes_of, broken, rules, fault_of, Placed, context_after}
use Rattle.cgx_spec.specs.Files.{Cut, bad, found, cut_body, cut, Step, stop, go, settle, judge, finish, step, Walk, walk, header, opening, opened, begin, walk_of, verdict_of, Accepted, records_of}
use Rattle.cgx_spec.specs.Written.{Sized, GoodFrom, place_all}
use Rattle.cgx_spec.proofs.Lists.{true→T, and_left, and_right, eqb-false, eqb-false→ne, ltb-false, ltb-false→le, or_left_false, or_right_false, Bytes-take, Bytes-drop, Bytes-append, Bytes-cons}

-- ---- cutting

cut-body : (n t fl : ℕ) (b bs : List ℕ) → n ≡ 4 + length b → length b % 2 ≡ 0 → cut_body n t fl (b ++ bs) ≡ found (record { type = t; flags = fl; body = b }) bs
unfolding cut_body
cut-body n t fl b bs e h =
    let e₁ : eqb (n % 2) 1 ≡ false = eqb-false (n % 2) 1 (omega arith) in
    let e₂ : ltb n 4 ≡ false = ltb-false n 4 (omega arith) in
    let e₃ : ltb (length (b ++ bs)) (n - 4) ≡ false = ltb-false (length (b ++ bs)) (n - 4) (omega (arith, length-append b bs)) in
    let l : length b ≡ n - 4 = omega arith in
    rw (e₁, e₂, e₃, take_at b bs (n - 4) l, drop_at b bs (n - 4) l)

pub cut_of : (r : Rec) (bs : List ℕ) → Sized r → cut (bytes_of r ++ bs) ≡ found r bs
unfolding cut bytes_of
cut_of r bs h = cut-body _ r.type r.flags r.body bs (div-add-mod' (size r) 256) h.even

-- what it means that a record was cut
abbrev CutSound : List ℕ → Cut → Type 0
CutSound bs (bad n) = Unit {0}
CutSound bs (found r rest) = (bs ≡ bytes_of r ++ rest) × Sized r × Bytes rest

cut-sound-body : (a b t fl : ℕ) (bs : List ℕ) → Bytes (a ∷ b ∷ t ∷ fl ∷ bs) → CutSound (a ∷ b ∷ t ∷ fl ∷ bs) (cut_body (a * 256 + b) t fl bs)
unfolding cut_body bytes_of
cut-sound-body a b t fl bs h =
    one (eqb ((a * 256 + b) % 2) 1 || ltb (a * 256 + b) 4) refl
  where
    n : ℕ
    n = a * 256 + b

    two : (c : Bool) → ltb (length bs) (n - 4) ≡ c → n % 2 ≡ 0 → 4 ≤ n → CutSound (a ∷ b ∷ t ∷ fl ∷ bs) (cond c (bad 4) (found (record { type = t; flags = fl; body = take (n - 4) bs }) (drop (n - 4) bs)))
    two true e ev le = tt
    two false e ev le =
        let m = n - 4 in
        let l : length (take m bs) ≡ m = length-take-le m bs (ltb-false→le (length bs) m e) in
        let ha : a < 256 = h 0 in
        let hb : b < 256 = h 1 in
        let p : a ≡ (4 + length (take m bs)) / 256 = omega arith in
        let q : b ≡ (4 + length (take m bs)) % 256 = omega arith in
        let bytes : Bytes bs = λ i. h (suc (suc (suc (suc i)))) in
        ((λ i. p i ∷ q i ∷ t ∷ fl ∷ sym (take-append-drop m bs) i), record { even = omega arith; small = omega arith; type-byte = h 2; flags-byte = h 3; body_bytes = Bytes-take m bs bytes }, Bytes-drop m bs bytes)

    one : (c : Bool) → (eqb (n % 2) 1 || ltb n 4) ≡ c → CutSound (a ∷ b ∷ t ∷ fl ∷ bs) (cond c (bad 5) (cond (ltb (length bs) (n - 4)) (bad 4) (found (record { type = t; flags = fl; body = take (n - 4) bs }) (drop (n - 4) bs))))
    one true e = tt
    one false e =
        let ne : n % 2 ≡ 1 → ⊥ = eqb-false→ne (n % 2) 1 (or_left_false (eqb (n % 2) 1) (ltb n 4) e) in
        let le : 4 ≤ n = ltb-false→le n 4 (or_right_false (eqb (n % 2) 1) (ltb n 4) e) in
        two (ltb (length bs) (n - 4)) refl (omega arith) le

cut-sound : (bs : List ℕ) → Bytes bs → CutSound bs (cut bs)
unfolding cut
cut-sound [] h = tt
cut-sound (a ∷ []) h = tt
cut-sound (a ∷ b ∷ []) h = tt
cut-sound (a ∷ b ∷ t ∷ []) h = tt
cut-sound (a ∷ b ∷ t ∷ fl ∷ bs) h = cut-sound-body a b t fl bs h

-- ---- a step

-- `met`, `allowed` and `next`, of these facts
abbrev pub holds : OrderFacts → Need → Bool
holds s LibraryBefore = s.library
holds s NoLibraryBefore = not s.library
holds s OpenCell = s.cell
holds s LayerInForce = s.layer
holds s NoneAwaiting = not s.waiting
holds s OnlyCprpty = s.fresh

unfoldable pub may : OrderFacts → Option Kind → Bool
may s o = every (holds s) (needs_of o)

abbrev object : OrderFacts → OrderFacts
object s = record { library = s.library; cell = s.cell; layer = s.layer; fresh = false; waiting = false; ended = false }

unfoldable pub then : OrderFacts → Option Kind → OrderFacts
then s None = s
then s (Some Library) = record { library = true; cell = false; layer = false; fresh = false; waiting = false; ended = false }
then s (Some Struct) = record { library = s.library; cell = true; layer = false; fresh = true; waiting = false; ended = false }
then s (Some Cprpty) = record { library = s.library; cell = s.cell; layer = s.layer; fresh = s.fresh; waiting = false; ended = false }
then s (Some Property) = record { library = s.library; cell = s.cell; layer = s.layer; fresh = false; waiting = true; ended = false }
then s (Some Layer) = record { library = s.library; cell = s.cell; layer = true; fresh = false; waiting = false; ended = false }
then s (Some Box) = object s
then s (Some Poly) = object s
then s (Some Wire) = object s
then s (Some Text) = object s
then s (Some Sref) = object s
then s (Some Endlib) = record { library = s.library; cell = s.cell; layer = s.layer; fresh = false; waiting = false; ended = true }

met-is : (c : Context) (n : Need) → met c n ≡ holds (facts_of c) n
met-is c LibraryBefore = refl
met-is c NoLibraryBefore = refl
met-is c OpenCell = refl
met-is c LayerInForce = refl
met-is c NoneAwaiting = refl
met-is c OnlyCprpty = refl

pub may-is : (c : Context) (o : Option Kind) → allowed c o ≡ may (facts_of c) o
unfolding allowed may
may-is c o = each (needs_of o)
  where
    each : (ns : List Need) → every (met c) ns ≡ every (holds (facts_of c)) ns
    each [] = refl
    each (n ∷ ns) = ap₂ ◌&&◌ (met-is c n) (each ns)

waits-on : (r : Option Run) (at : ℕ) → awaiting (longer r at) ≡ true
waits-on None at = refl
waits-on (Some r) at = refl

pub then_is : (c : Context) (at : ℕ) (o : Option Kind) → facts_of (next c at o) ≡ then (facts_of c) o
unfolding then
then_is c at None = refl
then_is c at (Some Library) = refl
then_is c at (Some Struct) = refl
then_is c at (Some Cprpty) = refl
then_is c at (Some Property) =
    λ i. record { library = c.library; cell = present c.cell; layer = present c.layer; fresh = false; waiting = waits-on c.run at i; ended = false }
then_is c at (Some Layer) = refl
then_is c at (Some Box) = refl
then_is c at (Some Poly) = refl
then_is c at (Some Wire) = refl
then_is c at (Some Text) = refl
then_is c at (Some Sref) = refl
then_is c at (Some Endlib) = refl

-- the first rule that a record breaks, by the facts before it
abbrev pub fault : OrderFacts → Rec → Option ℕ
fault s r = broken (rules (may s (kind_of r.type)) (kind_of r.type) r)

-- the records are good from some facts on, and the last of them is ENDLIB
abbrev pub Chain : OrderFacts → List Rec → Type 0
Chain s [] = s.ended ≡ true
Chain s (r ∷ rs) = (s.ended ≡ false) × Sized r × (fault s r ≡ None) × Chain (then s (kind_of r.type)) rs

abbrev pub placed : Context → ℕ → Rec → Placed
placed c at r = record { at = at; context = c; rec = r }

pub step_of : (c : Context) (at : ℕ) (r : Rec) (bs : List ℕ) → c.ended ≡ false → Sized r → fault (facts_of c) r ≡ None → step c at (bytes_of r ++ bs) ≡ go (placed c at r) bs
unfolding step judge settle
step_of c at r bs e h b =
    let x = bytes_of r ++ bs in
    let b' = ap (λ (m : Bool). broken (rules m (kind_of r.type) r)) (may-is c (kind_of r.type)) ∙ b in
    ap (λ (z : Bool). cond z (stop (finish at x)) (judge c at (cut x))) e ∙ ap (judge c at) (cut_of r bs h) ∙ ap (settle c at r bs) b'

pub step_end : (c : Context) (at : ℕ) → c.ended ≡ true → step c at [] ≡ stop accepted
unfolding step finish
step_end c at e = ap (λ (z : Bool). cond z (stop (finish at [])) (judge c at (cut []))) e

abbrev StepSound : Context → List ℕ → Step → Type 0
StepSound c bs (stop v) = v ≡ accepted → (bs ≡ []) × (c.ended ≡ true)
StepSound c bs (go p rest) =
    (bs ≡ bytes_of p.rec ++ rest) × (c.ended ≡ false) × Sized p.rec × (fault (facts_of c) p.rec ≡ None) × (p.context ≡ c) × Bytes rest

step-sound : (c : Context) (at : ℕ) (bs : List ℕ) → Bytes bs → StepSound c bs (step c at bs)
unfolding step settle judge finish
step-sound c at bs h = one c.ended refl
  where
    three : (r : Rec) (rest : List ℕ) → CutSound bs (found r rest) → c.ended ≡ false → (o : Option ℕ) → fault_of c r ≡ o → StepSound c bs (settle c at r rest o)
    three r rest x e None b =
        (x.0, e, x.1, ap (λ (m : Bool). broken (rules m (kind_of r.type) r)) (sym (may-is c (kind_of r.type))) ∙ b, refl, x.2)
    three r rest x e (Some n) b = λ v. absurd (let z : ◌≡◌ {A = ℕ} 0 1 = cc in omega arith)

    two : (x : Cut) → CutSound bs x → c.ended ≡ false → StepSound c bs (judge c at x)
    two (bad n) x e = λ v. absurd (let z : ◌≡◌ {A = ℕ} 0 1 = cc in omega arith)
    two (found r rest) x e = three r rest x e (fault_of c r) refl

    end : (x : List ℕ) → finish at x ≡ accepted → x ≡ []
    end [] e = refl
    end (b ∷ x) e = cc

    one : (b : Bool) → c.ended ≡ b → StepSound c bs (cond b (stop (finish at bs)) (judge c at (cut bs)))
    one true e = λ v. (end bs v, e)
    one false e = two (cut bs) (cut-sound bs h) e

-- ---- a walk

abbrev pub recs : Walk → List Rec
recs w = map (λ p. p.rec) w.records

pub after_is : (c : Context) (p : Placed) → p.context ≡ c → facts_of (context_after p) ≡ then (facts_of c) (kind_of p.rec.type)
unfolding context_after
after_is c p e = then_is p.context p.at (kind_of p.rec.type) ∙ ap (λ (u : Context). then (facts_of u) (kind_of p.rec.type)) e

pub walk-sound : (k : ℕ) (c : Context) (bs : List ℕ) (st : Step) → StepSound c bs st → (walk k st).verdict ≡ accepted → (bs ≡ join bytes_of (recs (walk k st))) × Chain (facts_of c) (recs (walk k st))
unfolding walk
walk-sound zero c bs (stop v) h e = h e
walk-sound (suc k) c bs (stop v) h e = h e
walk-sound zero c bs (go p rest) h e = absurd (let z : ◌≡◌ {A = ℕ} 0 1 = cc in omega arith)
walk-sound (suc k) c bs (go p rest) h e =
    let at = p.at + size p.rec in
    let st = step (context_after p) at rest in
    let ih = walk-sound k (context_after p) rest st (step-sound (context_after p) at rest h.5) e in
    (h.0 ∙ ap (λ t. bytes_of p.rec ++ t) ih.0, (h.1, h.2, h.3, subst (λ (u : OrderFacts). Chain u (recs (walk k st))) (after_is c p h.4) ih.1))

pub walk-complete : (rs : List Rec) (k : ℕ) (c : Context) (at : ℕ) → length rs ≤ k → Chain (facts_of c) rs → ((walk k (step c at (join bytes_of rs))).verdict ≡ accepted) × (recs (walk k (step c at (join bytes_of rs))) ≡ rs)
unfolding walk
walk-complete [] zero c at l h = rw (step_end c at h) (refl, refl)
walk-complete [] (suc k) c at l h = rw (step_end c at h) (refl, refl)
walk-complete (r ∷ rs) zero c at l h = absurd (omega arith)
walk-complete (r ∷ rs) (suc k) c at l h =
    let p = placed c at r in
    let ih = walk-complete rs k (context_after p) (at + size r) (omega arith) (subst (λ (u : OrderFacts). Chain u rs) (sym (after_is c p refl)) h.3) in
    rw (step_of c at r (join bytes_of rs) h.0 h.1 h.2) (ih.0, ap (λ t. r ∷ t) ih.1)

-- ---- whole files

pub length-join : (rs : List Rec) → length rs ≤ length (join bytes_of rs)
unfolding bytes_of
length-join [] = omega arith
length-join (r ∷ rs) = omega (arith, length-join rs, length-append r.body (join bytes_of rs))

pub Bytes_of : (r : Rec) → Sized r → Bytes (bytes_of r)
unfolding bytes_of
Bytes_of r h =
    let s = h.small in
    let a : size r / 256 < 256 = omega arith in
    let b : size r % 256 < 256 = omega arith in
    Bytes-cons (size r / 256) (size r % 256 ∷ r.type ∷ r.flags ∷ r.body) a
    (Bytes-cons (size r % 256) (r.type ∷ r.flags ∷ r.body) b (Bytes-cons r.type (r.flags ∷ r.body) h.type-byte (Bytes-cons r.flags r.body h.flags-byte h.body_bytes)))

pub Bytes-join : (s : OrderFacts) (rs : List Rec) → Chain s rs → Bytes (join bytes_of rs)
Bytes-join s [] c = λ i. zero-lt-suc 255
Bytes-join s (r ∷ rs) c = Bytes-append (bytes_of r) (join bytes_of rs) (Bytes_of r c.1) (Bytes-join (then s (kind_of r.type)) rs c.3)

pub file-complete : (rs : List Rec) → Chain (facts_of start) rs → Accepted (header ++ join bytes_of rs) × (records_of (header ++ join bytes_of rs) ≡ rs)
unfolding Accepted verdict_of records_of walk_of begin opening
file-complete rs c = walk-complete rs (length (header ++ join bytes_of rs)) start 4 (omega (arith, length-join rs)) c

-- what it means that a walk has begun
abbrev BeginSound : List ℕ → Step → Type 0
BeginSound f st = (k : ℕ) → (walk k st).verdict ≡ accepted → (f ≡ header ++ join bytes_of (recs (walk k st))) × Chain (facts_of start) (recs (walk k st))

begun : (f : List ℕ) (n at k : ℕ) → (walk k (stop (refused n at))).verdict ≡ accepted → (f ≡ header ++ join bytes_of (recs (walk k (stop (refused n at))))) × Chain (facts_of start) (recs (walk k (stop (refused n at))))
unfolding walk
begun f n at zero e = absurd (let z : ◌≡◌ {A = ℕ} 0 1 = cc in omega arith)
begun f n at (suc k) e = absurd (let z : ◌≡◌ {A = ℕ} 0 1 = cc in omega arith)

begin-sound : (f : List ℕ) → Bytes f → BeginSound f (begin f)
unfolding begin opening
begin-sound [] h = begun [] 1 0
begin-sound (a ∷ []) h = begun (a ∷ []) 1 0
begin-sound (a ∷ b ∷ []) h = begun (a ∷ b ∷ []) 1 0
begin-sound (a ∷ b ∷ c ∷ []) h = begun (a ∷ b ∷ c ∷ []) 1 0
begin-sound (a ∷ b ∷ c ∷ l ∷ bs) h = one (eqb a 99 && eqb b 103 && eqb c 120) refl
  where
    f : List ℕ
    f = a ∷ b ∷ c ∷ l ∷ bs

    two : (z : Bool) → eqb l 0 ≡ z → T (eqb a 99 && eqb b 103 && eqb c 120) → BeginSound f (opened (cond z 0 2) bs)
    two true ez t k e =
        let r = walk-sound k start bs (step start 4 bs) (step-sound start 4 bs (λ i. h (suc (suc (suc (suc i)))))) e in
        let t₂ = and_left (eqb a 99 && eqb b 103) (eqb c 120) t in
        let pa = eqb→eq a 99 (and_left (eqb a 99) (eqb b 103) t₂) in
        let pb = eqb→eq b 103 (and_right (eqb a 99) (eqb b 103) t₂) in
        let pc = eqb→eq c 120 (and_right (eqb a 99 && eqb b 103) (eqb c 120) t) in
        let pl = eqb→eq l 0 (true→T ez) in
        ((λ i. pa i ∷ pb i ∷ pc i ∷ pl i ∷ r.0 i), r.1)
    two false ez t k e = begun f 2 0 k e

    one : (z : Bool) → (eqb a 99 && eqb b 103 && eqb c 120) ≡ z → BeginSound f (opened (cond z (cond (eqb l 0) 0 2) 1) bs)
    one true ez = two (eqb l 0) refl (true→T ez)
    one false ez = begun f 1 0

pub file-sound : (f : List ℕ) → Bytes f → Accepted f → (f ≡ header ++ join bytes_of (records_of f)) × Chain (facts_of start) (records_of f)
unfolding Accepted verdict_of records_of walk_of
file-sound f h e = begin-sound f h (length f) e

-- ---- places and contexts

pub good-chain : (rs : List Rec) (c : Context) (at : ℕ) → GoodFrom c at rs → Chain (facts_of c) rs
good-chain [] c at h = h
good-chain (r ∷ rs) c at h =
    let k = kind_of r.type in (
      h.0,
      h.1,
      ap (λ (m : Bool). broken (rules m k r)) (sym (may-is c k)) ∙ h.2,
      subst (λ (u : OrderFacts). Chain u rs) (then_is c at k) (good-chain rs (next c at k) (at + size r) h.3),
    )

walk-places : (rs : List Rec) (k : ℕ) (c : Context) (at : ℕ) → length rs ≤ k → Chain (facts_of c) rs → (walk k (step c at (join bytes_of rs))).records ≡ place_all c at rs
unfolding walk place_all context_after
walk-places [] zero c at l h = rw (step_end c at h) refl
walk-places [] (suc k) c at l h = rw (step_end c at h) refl
walk-places (r ∷ rs) zero c at l h = absurd (omega arith)
walk-places (r ∷ rs) (suc k) c at l h =
    let p = placed c at r in
    let ih = walk-places rs k (next c at (kind_of r.type)) (at + size r) (omega arith) (subst (λ (u : OrderFacts). Chain u rs) (sym (after_is c p refl)) h.3) in
    rw (step_of c at r (join bytes_of rs) h.0 h.1 h.2) (ap (λ t. p ∷ t) ih)

-- the places and contexts of an accepted file are worked out from its records
pub file-places : (f : List ℕ) → Bytes f → Accepted f → (walk_of f).records ≡ place_all start 4 (records_of f)
file-places f h a =
    let s = file-sound f h a in
    let rs = records_of f in
    ap (λ (g : List ℕ). (walk_of g).records) s.0 ∙ (unfold walk_of begin opening in (walk-places rs (length (header ++ join bytes_of rs)) start 4 (omega (arith, length-join rs)) s.1))
