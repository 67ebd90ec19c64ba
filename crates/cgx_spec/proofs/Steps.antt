-- A walk step by step gives the views and the verdict of the whole-file walk; and a view means what its record means.
use Rattle.std.specs.Prelude.{None, Option, Some, Ok, Err}
use mathlib.Core.Path.{◌≡◌, refl, sym, ap, ◌∙◌, subst}
use mathlib.Core.Bool.{Bool, true, false, ◌||◌, cond}
use mathlib.Core.List.{List, [], ◌∷◌, ◌++◌, map}
use Prim.Native.Nat.{ℕ, zero, suc, ◌+◌, ◌*◌, ◌%◌, ◌-◌, ◌≤◌, ◌<◌}
use native.Mathlib.Omega.{arith}
use lib.Dec.{T, leb, ltb, eqb, leb→le, le→leb}
use lib.ListN.{length, take, drop, length-drop}
use lib.Seq.{length-take-le, drop-drop}
use Rattle.cgx_spec.specs.declared.Kind.{Kind}
use Rattle.cgx_spec.specs.declared.Kind.TheVariants.{Library, Struct, Cprpty, Property, Layer, Box, Poly, Wire, Text, Sref, Endlib}
use Rattle.cgx_spec.specs.declared.Run.{Run}
use Rattle.cgx_spec.specs.declared.Context.{Context}
use Rattle.cgx_spec.specs.declared.Place.{Place}
use Rattle.cgx_spec.specs.Verdicts.{Verdict}
use Rattle.cgx_spec.specs.Verdicts.{accepted, refused}
use Rattle.cgx_spec.specs.Kinds.{kind_of, count}
use Rattle.cgx_spec.specs.Order.{start, longer, next}
use Rattle.cgx_spec.specs.Records.{Rec, size, Meaning, meaning_of, fault_of, Placed, context_after, view_of, view_meaning}
use Rattle.cgx_spec.specs.Files.{Cut, bad, found, cut_body, cut, Step, stop, go, settle, judge, finish, step, Walk, walk, header, opening, begin, walk_of, verdict_of, records_of, if_known, known, sequence, meanings, if_seen, views, views_of}
use Rattle.cgx_spec.specs.Walking.{first_place, place_after, offset_up_to, run_up_to, forged, seen, refused_at, ending, answer, step_of, Reads, and_then, reads}
use Rattle.cgx_spec.specs.Demands.{Reading}
use Rattle.cgx_spec.proofs.Lists.{T→true, and_left, and_right, and_both, eq→eqb, eqb-false→ne, ltb-false→le, or_left_false, or_right_false}
use Rattle.cgx_spec.proofs.Chain.{file-sound, file-places}
use Rattle.cgx_spec.proofs.Demand3.{read_back}

-- ---- where a step leaves off

abbrev CutAt : List ℕ → Cut → Type 0
CutAt bs (bad n) = Unit {0}
CutAt bs (found r rest) = (rest ≡ drop (size r) bs) × (size r ≤ length bs) × (size r % 2 ≡ 0)

cut_at : (bs : List ℕ) → CutAt bs (cut bs)
unfolding cut cut_body
cut_at [] = tt
cut_at (a ∷ []) = tt
cut_at (a ∷ b ∷ []) = tt
cut_at (a ∷ b ∷ t ∷ []) = tt
cut_at (a ∷ b ∷ t ∷ fl ∷ bs) = one (a * 256 + b) (eqb ((a * 256 + b) % 2) 1 || ltb (a * 256 + b) 4) refl (ltb (length bs) (a * 256 + b - 4)) refl
  where
    one : (n : ℕ) (y : Bool) → (eqb (n % 2) 1 || ltb n 4) ≡ y → (z : Bool) → ltb (length bs) (n - 4) ≡ z → CutAt (a ∷ b ∷ t ∷ fl ∷ bs) (cond y (bad 5) (cond z (bad 4) (found (record { type = t; flags = fl; body = take (n - 4) bs }) (drop (n - 4) bs))))
    one n true ey z ez = tt
    one n false ey true ez = tt
    one n false ey false ez =
        let ne : n % 2 ≡ 1 → ⊥ = eqb-false→ne (n % 2) 1 (or_left_false (eqb (n % 2) 1) (ltb n 4) ey) in
        let le : 4 ≤ n = ltb-false→le n 4 (or_right_false (eqb (n % 2) 1) (ltb n 4) ey) in
        let m : length (take (n - 4) bs) ≡ n - 4 = length-take-le (n - 4) bs (ltb-false→le (length bs) (n - 4) ez) in
        let e : 4 + length (take (n - 4) bs) ≡ suc (suc (suc (suc (n - 4)))) = omega arith in
        (ap (λ (k : ℕ). drop k (a ∷ b ∷ t ∷ fl ∷ bs)) (sym e), (let l : n - 4 ≤ length bs = ltb-false→le (length bs) (n - 4) ez in omega arith), omega arith)

abbrev pub StepAt : List ℕ → Context → ℕ → Step → Type 0
StepAt bs c at (stop v) = Unit {0}
StepAt bs c at (go p rest) = (rest ≡ drop (size p.rec) bs) × (size p.rec ≤ length bs) × (size p.rec % 2 ≡ 0) × (p.at ≡ at) × (p.context ≡ c)

pub step-at : (c : Context) (at : ℕ) (bs : List ℕ) → StepAt bs c at (step c at bs)
unfolding step judge settle
step-at c at bs = one c.ended (cut bs) (cut_at bs)
  where
    three : (r : Rec) (rest : List ℕ) → CutAt bs (found r rest) → (o : Option ℕ) → StepAt bs c at (settle c at r rest o)
    three r rest h None = (h.0, h.1, h.2, refl, refl)
    three r rest h (Some n) = tt

    two : (x : Cut) → CutAt bs x → StepAt bs c at (judge c at x)
    two (bad n) h = tt
    two (found r rest) h = three r rest h (fault_of c r)

    one : (z : Bool) (x : Cut) → CutAt bs x → StepAt bs c at (cond z (stop (finish at bs)) (judge c at x))
    one true x h = tt
    one false x h = two x h

-- ---- a walk's places are not forged

pub record Within (at : ℕ) (c : Context) : Type 0 where
  pub cell_in : T (offset_up_to at c.cell)
  pub layer-in : T (offset_up_to at c.layer)
  pub run_in : T (run_up_to at c.run)

up : (at at' : ℕ) → at ≤ at' → (o : Option ℕ) → T (offset_up_to at o) → T (offset_up_to at' o)
up at at' l None t = tt
up at at' l (Some p) t = le→leb p at' (let h = leb→le p at t in omega arith)

up_run : (at at' : ℕ) → at ≤ at' → (r : Option Run) → T (run_up_to at r) → T (run_up_to at' r)
up_run at at' l None t = tt
up_run at at' l (Some r) t =
    let h = leb→le r.first at (and_left (leb r.first at) (leb r.count at) t) in
    let k = leb→le r.count at (and_right (leb r.first at) (leb r.count at) t) in
    and_both (leb r.first at') (leb r.count at') (le→leb r.first at' (omega arith)) (le→leb r.count at' (omega arith))

up-longer : (at at' : ℕ) → at < at' → (r : Option Run) → T (run_up_to at r) → T (run_up_to at' (longer r at))
up-longer at at' l None t = and_both (leb at at') (leb 1 at') (le→leb at at' (omega arith)) (le→leb 1 at' (omega arith))
up-longer at at' l (Some r) t =
    let h = leb→le r.first at (and_left (leb r.first at) (leb r.count at) t) in
    let k = leb→le r.count at (and_right (leb r.first at) (leb r.count at) t) in
    and_both (leb r.first at') (leb (r.count + 1) at') (le→leb r.first at' (omega arith)) (le→leb (r.count + 1) at' (omega arith))

pub within-next : (c : Context) (at at' : ℕ) (o : Option Kind) → at < at' → Within at c → Within at' (next c at o)
within-next c at at' o l w = go o
  where
    here : T (leb at at')
    here = le→leb at at' (omega arith)

    cell : T (offset_up_to at' c.cell)
    cell = up at at' (omega arith) c.cell w.cell_in

    layer : T (offset_up_to at' c.layer)
    layer = up at at' (omega arith) c.layer w.layer-in

    go : (o : Option Kind) → Within at' (next c at o)
    go None = record { cell_in = cell; layer-in = layer; run_in = up_run at at' (omega arith) c.run w.run_in }
    go (Some Library) = record { cell_in = tt; layer-in = tt; run_in = tt }
    go (Some Struct) = record { cell_in = here; layer-in = tt; run_in = tt }
    go (Some Cprpty) = record { cell_in = cell; layer-in = layer; run_in = tt }
    go (Some Property) = record { cell_in = cell; layer-in = layer; run_in = up-longer at at' l c.run w.run_in }
    go (Some Layer) = record { cell_in = cell; layer-in = here; run_in = tt }
    go (Some Box) = record { cell_in = cell; layer-in = layer; run_in = tt }
    go (Some Poly) = record { cell_in = cell; layer-in = layer; run_in = tt }
    go (Some Wire) = record { cell_in = cell; layer-in = layer; run_in = tt }
    go (Some Text) = record { cell_in = cell; layer-in = layer; run_in = tt }
    go (Some Sref) = record { cell_in = cell; layer-in = layer; run_in = tt }
    go (Some Endlib) = record { cell_in = cell; layer-in = layer; run_in = tt }

-- a place that a walk, or a writer, over n bytes comes to
pub record Unforged (n : ℕ) (p : Place) : Type 0 where
  pub low : 4 ≤ p.at
  pub even : p.at % 2 ≡ 0
  pub high : p.at ≤ n
  pub within : Within p.at p.context

pub not-forged : (n : ℕ) (p : Place) → Unforged n p → forged n p ≡ false
unfolding forged
not-forged n p h =
    let e₁ : leb 4 p.at ≡ true = T→true (le→leb 4 p.at h.low) in
    let e₂ : eqb (p.at % 2) 0 ≡ true = T→true (eq→eqb (p.at % 2) 0 h.even) in
    let e₃ : leb p.at n ≡ true = T→true (le→leb p.at n h.high) in
    let e₄ : offset_up_to p.at p.context.cell ≡ true = T→true h.within.cell_in in
    let e₅ : offset_up_to p.at p.context.layer ≡ true = T→true h.within.layer-in in
    let e₆ : run_up_to p.at p.context.run ≡ true = T→true h.within.run_in in
    rw (e₁, e₂, e₃, e₄, e₅, e₆)

pub unforged-start : (n : ℕ) → 4 ≤ n → Unforged n first_place
unfolding first_place start
unforged-start n l = record { low = omega arith; even = refl; high = l; within = record { cell_in = tt; layer-in = tt; run_in = tt } }

abbrev Reached : List ℕ → Context → ℕ → Type 0
Reached f c at = Unforged (length f) (record { at = at; context = c })

-- ---- step by step

abbrev summary : Walk → Reads
summary w = record { views = views w.records; last = ending w.verdict }

answer-stop : (m : ℕ) (v : Verdict) → answer m (stop v) ≡ ending v
unfolding answer
answer-stop zero v = refl
answer-stop (suc m) v = refl

walk-stop : (k : ℕ) (v : Verdict) → walk k (stop v) ≡ record { records = []; verdict = v }
unfolding walk
walk-stop zero v = refl
walk-stop (suc k) v = refl

reads-ending : (n : ℕ) (f : List ℕ) (v : Verdict) → reads n f (ending v) ≡ record { views = []; last = ending v }
unfolding reads ending
reads-ending zero f (Ok _) = refl
reads-ending (suc n) f (Ok _) = refl
reads-ending zero f (Err r) = refl
reads-ending (suc n) f (Err r) = refl

ended : (n k m : ℕ) (f : List ℕ) (v : Verdict) → reads n f (answer m (stop v)) ≡ summary (walk k (stop v))
ended n k m f v = ap (reads n f) (answer-stop m v) ∙ reads-ending n f v ∙ (unfold views in (ap summary (sym (walk-stop k v))))

-- the reading from a place, with steps enough, is what the walk from there says
abbrev Reading-from : List ℕ → ℕ → Type 0
Reading-from f k =
    (c : Context) (at m n : ℕ) → Reached f c at → length (drop at f) ≤ k → length (drop at f) ≤ m → length (drop at f) ≤ n
    → reads n f (answer m (step c at (drop at f))) ≡ summary (walk k (step c at (drop at f)))

reached-after : (f : List ℕ) (c : Context) (at : ℕ) (p : Placed) → Reached f c at → size p.rec ≤ length (drop at f) → size p.rec % 2 ≡ 0 → p.at ≡ at → p.context ≡ c → Reached f (context_after p) (at + size p.rec)
unfolding context_after
reached-after f c at p h l e ea ec =
    let w : Within p.at p.context = subst (λ (u : ℕ). Within u p.context) (sym ea) (subst (λ (u : Context). Within at u) (sym ec) h.within) in
    record {
      low = (let x = h.low in omega arith);
      even = (let x = h.even in omega arith);
      high = (let x = h.high in omega (arith, length-drop at f));
      within = within-next p.context p.at (at + size p.rec) (kind_of p.rec.type) (omega arith) w;
    }

further : (f : List ℕ) (k : ℕ) → Reading-from f k → (c : Context) (at m n : ℕ) → Reached f c at → (p : Placed) (rest : List ℕ) → StepAt (drop at f) c at (go p rest) → length (drop at f) ≤ suc k → length (drop at f) ≤ suc m → length (drop at f) ≤ suc n → reads (suc n) f (answer (suc m) (go p rest)) ≡ summary (walk (suc k) (go p rest))
unfolding answer walk views reads step_of place_after
further f k ih c at m n h p rest s lk lm ln = one (kind_of p.rec.type)
  where
    at' : ℕ
    at' = p.at + size p.rec

    r : Reached f (context_after p) at'
    r = subst (λ (u : ℕ). Reached f (context_after p) (u + size p.rec)) (sym s.3) (reached-after f c at p h s.1 s.2 s.3 s.4)

    e : rest ≡ drop at' f
    e = s.0 ∙ drop-drop (size p.rec) at f ∙ ap (λ (u : ℕ). drop (u + size p.rec) f) (sym s.3)

    less : (b : ℕ) → length (drop at f) ≤ suc b → length (drop at' f) ≤ b
    less b l = let x = s.3 in let y = s.1 in omega (arith, length-drop at f, length-drop at' f)

    one : (o : Option Kind) → reads (suc n) f (elim o [ None ↦ answer m (step (context_after p) at' rest) | Some kd ↦ seen (view_of kd p) (place_after p) ]) ≡ record { views = if_seen o p (views (walk k (step (context_after p) at' rest)).records); last = ending (walk k (step (context_after p) at' rest)).verdict }
    one None =
        subst (λ (x : List ℕ). reads (suc n) f (answer m (step (context_after p) at' x)) ≡ summary (walk k (step (context_after p) at' x))) (sym e)
        (ih (context_after p) at' m (suc n) r (less k lk) (less m lm) (let z = less n ln in omega arith))
    one (Some kd) =
        let a = answer (length f) (step (context_after p) at' (drop at' f)) in
        let g : step_of f (place_after p) ≡ a = ap (λ (b : Bool). cond b (refused_at 16 None) a) (not-forged (length f) (record { at = at'; context = context_after p }) r) in
        let t = ih (context_after p) at' (length f) n r (less k lk) (omega (arith, length-drop at' f)) (less n ln) in
        ap (λ (q : Reads). and_then (view_of kd p) q) (ap (reads n f) g ∙ t ∙ ap (λ (x : List ℕ). summary (walk k (step (context_after p) at' x))) (sym e))

reading : (f : List ℕ) (k : ℕ) → Reading-from f k
reading f zero = λ c at m n h lk lm ln. go₀ c at m n h lk (step c at (drop at f)) (step-at c at (drop at f))
  where
    go₀ : (c : Context) (at m n : ℕ) → Reached f c at → length (drop at f) ≤ 0 → (st : Step) → StepAt (drop at f) c at st → reads n f (answer m st) ≡ summary (walk 0 st)
    go₀ c at m n h l (stop v) s = ended n 0 m f v
    go₀ c at m n h l (go p rest) s = absurd (let y = s.1 in omega arith)
reading f (suc k) = λ c at m n h lk lm ln. go₁ c at m n h lk lm ln (step c at (drop at f)) (step-at c at (drop at f)) (reading f k)
  where
    go₁ : (c : Context) (at m n : ℕ) → Reached f c at → length (drop at f) ≤ suc k → length (drop at f) ≤ m → length (drop at f) ≤ n → (st : Step) → StepAt (drop at f) c at st → Reading-from f k → reads n f (answer m st) ≡ summary (walk (suc k) st)
    go₁ c at m n h lk lm ln (stop v) s ih = ended n (suc k) m f v
    go₁ c at zero n h lk lm ln (go p rest) s ih = absurd (let y = s.1 in omega arith)
    go₁ c at (suc m) zero h lk lm ln (go p rest) s ih = absurd (let y = s.1 in omega arith)
    go₁ c at (suc m) (suc n) h lk lm ln (go p rest) s ih = further f k ih c at m n h p rest s lk lm ln

steps : (bs : List ℕ) → let f = header ++ bs in reads (length f) f (step_of f first_place) ≡ record { views = views_of f; last = ending (verdict_of f) }
unfolding step_of first_place views_of verdict_of walk_of begin opening start
steps bs =
    let f = header ++ bs in
    let w : Within 4 start = record { cell_in = tt; layer-in = tt; run_in = tt } in
    let h : Reached f start 4 = record { low = omega arith; even = refl; high = omega arith; within = w } in
    let g = not-forged (length f) (record { at = 4; context = start }) h in
    ap (λ (b : Bool). reads (length f) f (cond b (refused_at 16 None) (answer (length f) (step start 4 bs)))) g
    ∙ reading f (length f) start 4 (length f) (length f) h (omega arith) (omega arith) (omega arith)

-- ---- what is read is what is meant

views-of : (ps : List Placed) → map view_meaning (views ps) ≡ meanings (known (map (λ p. p.rec) ps))
unfolding views known
views-of [] = refl
views-of (p ∷ ps) = one (kind_of p.rec.type) (views-of ps)
  where
    one : (o : Option Kind) → map view_meaning (views ps) ≡ meanings (known (map (λ (q : Placed). q.rec) ps)) → map view_meaning (if_seen o p (views ps)) ≡ meanings (if_known o p.rec (known (map (λ (q : Placed). q.rec) ps)))
    one None ih = ih
    one (Some k) ih = unfold view_of meaning_of in (ap (λ (t : List Meaning). meaning_of k p.rec ∷ t) ih)

views-mean : (f : List ℕ) → map view_meaning (views_of f) ≡ meanings (sequence f)
unfolding views_of sequence records_of
views-mean f = views-of (walk_of f).records

pub reading-law : Reading
reading-law = record { whole = λ f h a. (file-sound f h a).0; places = file-places; steps = steps; views-mean = views-mean; back = read_back }
