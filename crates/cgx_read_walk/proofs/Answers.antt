-- One step of a walk as a loop finds it: no count of steps is left in these laws. Assumes nothing.
use Rattle.std.specs.Prelude.{Err, None, Ok, Option, Result, Some}
use mathlib.Core.Path.{◌≡◌, refl, sym, ap, ap₂, ◌∙◌, subst}
use mathlib.Core.Bool.{Bool, true, false, cond}
use mathlib.Core.List.{List}
use Prim.Native.Nat.{ℕ, zero, suc, ◌+◌, ◌-◌, ◌<◌, ◌≤◌}
use native.Mathlib.Omega.{arith}
use lib.ListN.{length, take, drop, length-drop, get_or}
use Rattle.cgx_spec.specs.declared.Kind.{Kind}
use Rattle.cgx_spec.specs.declared.Context.{Context}
use Rattle.cgx_spec.specs.Verdicts.{Verdict, of_file}
use Rattle.cgx_spec.specs.Verdicts.{accepted as Accepted, refused as NotAccepted}
use Rattle.cgx_spec.specs.Kinds.{kind_of}
use Rattle.cgx_spec.specs.Order.{allowed, next}
use Rattle.cgx_spec.specs.Records.{size, Placed, context_after, view_of}
use Rattle.cgx_spec.specs.Files.{Step, stop, go, step, opening}
use Rattle.cgx_spec.specs.Walking.{first_place, place_after, forged, Answer, seen, refused_at, ending, answer, step_of, rec_at, Held}
use Rattle.cgx_spec.proofs.Verdicts.{StepNamed, step-named}
use Rattle.cgx_format_headers.specs.declared.Header.{Header}
use Rattle.cgx_format_headers.specs.declared.KnownRecord.{KnownRecord}
use Rattle.cgx_spec.specs.declared.Refusal.{Refusal}
use Rattle.cgx_format_headers.specs.Headers.{Heads, opened as said}
use Rattle.cgx_format_headers.proofs.HeaderLaws.{kind-says, flags-say}
use Rattle.cgx_format_headers.proofs.Heads.{held-size}
use Rattle.cgx_format_kinds.specs.declared.View.{View}
use Rattle.cgx_read_fields.specs.Views.{FieldsAt}
use Rattle.cgx_format_cursor.specs.declared.State.{State}
use Rattle.cgx_format_cursor.specs.declared.Cursor.{Cursor}
use Rattle.cgx_format_cursor.specs.Cursors.{context_in, place_in, state_of, cursor_of}
use Rattle.cgx_format_cursor.proofs.Laws.{next-in, unknown-needs}
use Rattle.cgx_format_records.specs.Faults.{rule_fault, FaultIs}
use Rattle.cgx_format_records.proofs.Rules.{first-6, unknown-0}
use Rattle.cgx_read_steps.specs.Steps.{step_meant, Steps, Stepped, ends, gives}
use Rattle.cgx_read_steps.proofs.Steps.{step-done, step-more, step-bad, step-go, step-broken}
use Rattle.cgx_read_steps.proofs.Walks.{good-header, good}
use Rattle.cgx_read_walk.specs.declared.Outcome.{Outcome}
use Rattle.cgx_read_walk.specs.declared.Outcome.TheVariants.{Record, Done, Refused}
use Rattle.cgx_read_views.specs.RecordViews.{Viewed}
use Rattle.cgx_read_walk.specs.Walk.{started, start_of, header_in, answer_meant, Left, Located, StepMade, answer_from, Reached, SoughtIs, Met, placed_at, found_meant}
use Rattle.cgx_spec.specs.declared.FileRefusal.{FileRefusal}

-- an unknown record is skipped, a known one is seen
abbrev either : Option Kind → Answer → Placed → Answer
either o u p = elim o [ None ↦ u | Some d ↦ seen (view_of d p) (place_after p) ]

-- ---- enough steps

-- with steps enough, their number does not matter
enough : (k j : ℕ) (bs : List ℕ) (st : Step) → StepNamed bs st → length bs ≤ k → length bs ≤ j → answer k st ≡ answer j st
unfolding answer
enough zero zero bs (stop v) h lk lj = refl
enough zero (suc j) bs (stop v) h lk lj = refl
enough (suc k) zero bs (stop v) h lk lj = refl
enough (suc k) (suc j) bs (stop v) h lk lj = refl
enough zero j bs (go p rest) h lk lj = absurd (omega arith)
enough (suc k) zero bs (go p rest) h lk lj = absurd (omega arith)
enough (suc k) (suc j) bs (go p rest) h lk lj =
    one (kind_of p.rec.type)
    (enough k j rest (step (context_after p) at rest) (step-named (context_after p) at rest) (omega arith) (omega arith))
  where
    at : ℕ
    at = p.at + size p.rec

    one : (o : Option Kind) → answer k (step (context_after p) at rest) ≡ answer j (step (context_after p) at rest)
        → either o (answer k (step (context_after p) at rest)) p ≡ either o (answer j (step (context_after p) at rest)) p
    one None e = e
    one (Some d) e = refl

-- ---- the three cases of a record

module _ (f : List ℕ) (c : Context) (at : ℕ) {r : Stepped} (e : Steps f c at r) where
  pub from-stop : {v : Verdict} → r ≡ ends v → answer_from f c at ≡ ending v
  unfolding step_meant answer
  from-stop {v} q = ap (answer (length f)) (e.steps ∙ ap (step_meant f c at) q) ∙ go₀ (length f)
    where
      go₀ : (k : ℕ) → answer k (stop v) ≡ ending v
      go₀ zero = refl
      go₀ (suc k) = refl

  module _ {h : Header} (q : r ≡ gives h) where
    abbrev n : ℕ
    n = h.size

    went : step c at (drop at f) ≡ go (placed_at f c at n) (drop (at + n) f)
    unfolding step_meant
    went = e.steps ∙ ap (step_meant f c at) q

    inside : Held f at n
    inside = (good f c at e q).held

    after_is : {o : Option Kind} → kind_of (get_or f (at + 2) 0) ≡ o → context_after (placed_at f c at n) ≡ next c at o
    unfolding context_after rec_at
    after_is k = ap (next c at) k

    opened : (k : ℕ) → length f ≤ suc k → answer (suc k) (go (placed_at f c at n) (drop (at + n) f)) ≡ either (kind_of (get_or f (at + 2) 0)) (answer_from f (context_after (placed_at f c at n)) (at + n)) (placed_at f c at n)
    unfolding answer rec_at
    opened k l =
        let p = placed_at f c at n in
        let h = inside in
        let a = h.least in
        let i = h.inside in
        let s : size (rec_at f at n) ≡ n = held-size f at h in
        let d = context_after p in
        let x = enough k (length f) (drop (at + n) f) (step d (at + n) (drop (at + n) f)) (step-named d (at + n) (drop (at + n) f)) (omega (arith, length-drop (at + n) f)) (omega (arith, length-drop (at + n) f)) in
        two (kind_of (get_or f (at + 2) 0)) (ap (λ (m : ℕ). answer k (step d (at + m) (drop (at + n) f))) s ∙ x)
      where
        two : (o : Option Kind) → {u v : Answer} → u ≡ v → either o u (placed_at f c at n) ≡ either o v (placed_at f c at n)
        two None w = w
        two (Some d) w = refl

    cases : answer_from f c at ≡ either (kind_of (get_or f (at + 2) 0)) (answer_from f (context_after (placed_at f c at n)) (at + n)) (placed_at f c at n)
    cases = ap (answer (length f)) went ∙ one (length f) refl
      where
        one : (k : ℕ) → length f ≡ k → answer k (go (placed_at f c at n) (drop (at + n) f)) ≡ either (kind_of (get_or f (at + 2) 0)) (answer_from f (context_after (placed_at f c at n)) (at + n)) (placed_at f c at n)
        one zero z = absurd (let h = inside in let a = h.least in let i = h.inside in omega arith)
        one (suc k) z = opened k (omega arith)

    pub from-known : {k : Kind} → kind_of (get_or f (at + 2) 0) ≡ Some k → answer_from f c at ≡ found_meant f c at n k
    unfolding place_after
    from-known {k} x =
        let s : size (rec_at f at n) ≡ n = held-size f at inside in
        cases ∙ ap (λ (o : Option Kind). either o (answer_from f (context_after (placed_at f c at n)) (at + n)) (placed_at f c at n)) x
        ∙ ap (λ (m : ℕ). seen (view_of k (placed_at f c at n)) (record { at = at + m; context = context_after (placed_at f c at n) })) s
        ∙ ap (λ (d : Context). seen (view_of k (placed_at f c at n)) (record { at = at + n; context = d })) (after_is x)

    -- by the type of the header
    pub kind-is : {t : Option Kind} → h.kind ≡ t → kind_of (get_or f (at + 2) 0) ≡ t
    kind-is k = sym (kind-says f at (good-header f c at e q).read) ∙ k

    pub from-unknown : kind_of (get_or f (at + 2) 0) ≡ None → answer_from f c at ≡ answer_from f c (at + n)
    from-unknown x =
        let y : context_after (placed_at f c at n) ≡ c = after_is x in
        cases ∙ ap (λ (o : Option Kind). either o (answer_from f (context_after (placed_at f c at n)) (at + n)) (placed_at f c at n)) x
        ∙ ap (λ (d : Context). answer_from f d (at + n)) y

-- ---- what a step comes to

module _ (f : List ℕ) (c : Cursor) where
  pub step-forged : {b : Bool} → b ≡ forged (length f) (place_in c) → b ≡ true → SoughtIs f c (Err (record { number = 16; at = None }))
  unfolding step_of
  step-forged q e = sym (ap (λ (b : Bool). cond b (refused_at 16 None) (answer_from f (place_in c).context (place_in c).at)) (sym q ∙ e))

  pub step-on : {b : Bool} → b ≡ forged (length f) (place_in c) → b ≡ false → step_of f (place_in c) ≡ answer_from f (context_in c.state) c.at
  unfolding step_of place_in
  step-on q e = ap (λ (b : Bool). cond b (refused_at 16 None) (answer_from f (context_in c.state) c.at)) (sym q ∙ e)

  -- where the walk is after unknown records
  module _ (at : ℕ) (w : step_of f (place_in c) ≡ answer_from f (context_in c.state) at) where
    pub seek-done : c.state.ended ≡ true → at ≡ length f → SoughtIs f c (Ok None)
    unfolding context_in ending
    seek-done e q = sym (w ∙ from-stop f (context_in c.state) at (step-done f (context_in c.state) at e q) refl)

    pub seek-more : c.state.ended ≡ true → at ≤ length f → (at ≡ length f → ⊥) → SoughtIs f c (Err (record { number = 13; at = Some at }))
    unfolding context_in ending
    seek-more e l q = sym (w ∙ from-stop f (context_in c.state) at (step-more f (context_in c.state) at e l q) refl)

    module _ (e : c.state.ended ≡ false) {r : Result Header FileRefusal} (d : Heads f at r) where
      pub seek-bad : {k : FileRefusal} → r ≡ Err k → SoughtIs f c (Err (of_file k))
      unfolding context_in ending
      seek-bad q = sym (w ∙ from-stop f (context_in c.state) at (step-bad f (context_in c.state) at r e d q) refl)

      module _ {h : Header} (q : r ≡ Ok h) where
        pub seek-known : {k : Kind} → h.kind ≡ Some k → 0 < at → c.state.count ≤ at → SoughtIs f c (Ok (Some (record { at = at; size = h.size; kind = k; flags = h.flags })))
        seek-known {k} t l s = (
          record { heads = subst (Heads f at) (q ∙ ap (λ (x : Option Kind). Ok (record { size = h.size; kind = x; flags = h.flags })) t) d; unended = e; low = l; few = s },
          sym w,
        )

        -- an unknown record needs a LIBRARY before it, and nothing else
        module _ (t : h.kind ≡ None) where
          abbrev body : List ℕ
          body = take (at + h.size - (at + 4)) (drop (at + 4) f)

          unknown-fault : {n : Option ℕ} → FaultIs c.state.library None h.flags body n → FaultIs c.state.library h.kind h.flags body n
          unknown-fault z x = z x ∙ ap (λ (u : Option Kind). rule_fault c.state.library u (record { type = x; flags = h.flags; body = body })) (sym t)

          needs : c.state.library ≡ allowed (context_in c.state) h.kind
          needs = unknown-needs c.state ∙ ap (λ (u : Option Kind). allowed (context_in c.state) u) (sym t)

          pub seek-early : c.state.library ≡ false → SoughtIs f c (Err (record { number = 6; at = Some at }))
          unfolding context_in ending
          seek-early b =
              let z : FaultIs c.state.library None h.flags body (Some 6) = λ x. first-6 c.state.library None (record { type = x; flags = h.flags; body = body }) b in
              sym (w ∙ from-stop f (context_in c.state) at (step-broken f (context_in c.state) at r e d q needs (unknown-fault z) refl) refl)

          pub seek-on : c.state.library ≡ true → step_of f (place_in c) ≡ answer_from f (context_in c.state) (at + h.size)
          unfolding context_in
          seek-on b =
              let z : FaultIs c.state.library None h.flags body None = λ x. unknown-0 b (record { type = x; flags = h.flags; body = body }) in
              let s = step-go f (context_in c.state) at r e d q needs (unknown-fault z) refl in
              w ∙ from-unknown f (context_in c.state) at s refl (kind-is f (context_in c.state) at s refl t)

  -- what is sought, and its answer
  module _ {o : Result (Option KnownRecord) Refusal} (h : SoughtIs f c o) where
    pub sought-refused : {r : Refusal} → o ≡ Err r → StepMade f c (Refused r c)
    unfolding answer_meant
    sought-refused q = record { means = subst (SoughtIs f c) q h; left = refl; located = tt }

    pub sought-done : o ≡ Ok None → StepMade f c Done
    unfolding answer_meant
    sought-done q = record { means = subst (SoughtIs f c) q h; left = tt; located = tt }

    module _ {r : KnownRecord} (q : o ≡ Ok (Some r)) where
      pub sought-known : SoughtIs f c (Ok (Some r))
      sought-known = subst (SoughtIs f c) q h

      pub sought-made : {a : Outcome} → (answer_meant f a ≡ answer_from f (context_in c.state) r.at) × Left c a × Located f a → StepMade f c a
      sought-made e = record { means = e.0 ∙ sought-known.1; left = e.1; located = e.2 }

-- ---- a known record, judged: n is the number of the first of the rules 6 to 12 that it breaks, if any

module _ {f : List ℕ} {s : State} {r : KnownRecord} (m : Reached f s r) {here : Bool} (a : here ≡ allowed (context_in s) (Some r.kind)) {n : Option ℕ}
    (z : FaultIs here (Some r.kind) r.flags (take (r.at + r.size - (r.at + 4)) (drop (r.at + 4) f)) n) where
  judged-go : n ≡ None → Steps f (context_in s) r.at (gives (header_in r))
  unfolding context_in
  judged-go q = step-go f (context_in s) r.at (Ok (header_in r)) m.unended m.heads refl a z q

  pub met : n ≡ None → Met f s r.at r.size r.kind r.flags
  met q =
      let e = judged-go q in
      let g = good-header f (context_in s) r.at e refl in
      record { found = record { good = g.good; kind-is = kind-is f (context_in s) r.at e refl refl; flags-is = flags-say f r.at g.read }; low = m.low; few = m.few }

  pub judged-kept : n ≡ None → answer_from f (context_in s) r.at ≡ found_meant f (context_in s) r.at r.size r.kind
  judged-kept q = let e = judged-go q in from-known f (context_in s) r.at e refl (kind-is f (context_in s) r.at e refl refl)

  pub judged-broken : {k : ℕ} → n ≡ Some k → answer_from f (context_in s) r.at ≡ ending (NotAccepted k r.at)
  unfolding context_in
  judged-broken q = from-stop f (context_in s) r.at (step-broken f (context_in s) r.at (Ok (header_in r)) m.unended m.heads refl a z q) refl

  pub broken-made : (p : Cursor) {k : ℕ} → n ≡ Some k → let o = Refused (record { number = k; at = Some r.at }) p in (answer_meant f o ≡ answer_from f (context_in s) r.at) × Left p o × Located f o
  unfolding answer_meant ending
  broken-made p q = (sym (judged-broken q), refl, tt)

-- ---- the start

pub start-refused : (f : List ℕ) {k : FileRefusal} → Err k ≡ said (opening f) → Err k ≡ start_of f
unfolding start_of
start-refused f {k} q = go (opening f) q
  where
    go : (n : ℕ) → Err k ≡ said n → Err k ≡ started n
    go zero z = absurd (let x : ◌≡◌ {A = ℕ} 0 1 = cc in omega arith)
    go (suc n) z = ap (λ (v : Verdict). elim v [ Ok u ↦ Err k | Err r ↦ Err r ]) z

pub start-good : (f : List ℕ) {c : Cursor} → opening f ≡ 0 → c ≡ cursor_of first_place → Ok c ≡ start_of f
unfolding start_of
start-good f z e = ap Ok e ∙ sym (ap started z)

-- ---- the place after a record

pub moved : (s : State) (at : ℕ) (k : Kind) {after : State} → 0 < at → after ≡ state_of (next (context_in s) at (Some k)) → (context_in after ≡ next (context_in s) at (Some k)) × (after ≡ state_of (context_in after))
moved s at k l e =
    let q : context_in _ ≡ next (context_in s) at (Some k) = ap context_in e ∙ next-in s at k l in
    (q, e ∙ ap state_of (sym q))

-- the answer that a view and that place make
pub known-made : (f : List ℕ) (s : State) (at n : ℕ) (k : Kind) (v : View) (after : State) → (context_in after ≡ next (context_in s) at (Some k)) × (after ≡ state_of (context_in after)) → Viewed f at (context_in s) at n k v
    → let r = Record v (record { at = at + n; state = after }) in (answer_meant f r ≡ found_meant f (context_in s) at n k) × ((p : Cursor) → Left p r) × Located f r
unfolding answer_meant place_in cursor_of
known-made f s at n k v after m w = (
  ap₂ seen w.means (ap (λ (d : Context). record { at = at + n; context = d }) m.0),
  (λ p. ap (λ (d : State). record { at = at + n; state = d }) m.1),
  (w.kind-is, subst (λ (x : ℕ). FieldsAt v.flags f x (at + n) v.fields) (sym w.offset-is) w.located),
)
