-- What a step answers and leaves, by what it comes to. Assumes nothing.
use Rattle.std.specs.Prelude.{Option, None, Some, Result, Ok, Err}
use mathlib.Core.Path.{◌≡◌, refl, sym, ap, ◌∙◌, subst}
use mathlib.Core.List.{List}
use mathlib.Core.Bool.{Bool, true, false}
use Prim.Native.Nat.{ℕ, ◌+◌, ◌-◌}
use native.Mathlib.Omega.{arith}
use lib.ListN.{take, drop}
use Rattle.cgx_spec.specs.declared.Kind.{Kind}
use Rattle.cgx_spec.specs.declared.Refusal.{Refusal}
use Rattle.cgx_format_headers.specs.declared.KnownRecord.{KnownRecord}
use Rattle.std.proofs.lemmas.Option.{none-some}
use Rattle.cgx_spec.specs.Kinds.{good_flags}
use Rattle.cgx_spec.specs.Order.{allowed, next}
use Rattle.cgx_spec.specs.Walking.{rec_at}
use Rattle.cgx_format_bodies.specs.Bodies.{body_fault}
use Rattle.cgx_format_records.specs.Faults.{FaultIs}
use Rattle.cgx_format_records.proofs.Rules.{first-6, flags-7, body-8}
use Rattle.cgx_format_kinds.specs.declared.View.{View}
use Rattle.cgx_format_cursor.specs.declared.State.{State}
use Rattle.cgx_format_cursor.specs.declared.Cursor.{Cursor}
use Rattle.cgx_format_cursor.specs.Cursors.{offset_in, run_in, context_in, state_of}
use Rattle.buffers.specs.Put.{put}
use Rattle.cgx_read_fields.proofs.Ready.{read_as}
use Rattle.cgx_read_walk.specs.declared.Outcome.TheVariants.{Record, Done, Refused}
use Rattle.cgx_read_walk.specs.Walk.{StepMade, Reached, SoughtIs}
use Rattle.cgx_read_views.specs.RecordViews.{taken_by}
use Rattle.cgx_read_walk.proofs.Answers.{sought-refused, sought-done, sought-known, sought-made, met, judged-kept, broken-made, moved, known-made}
use Rattle.cgx_read_views.proofs.Views.{readable, view-is}
use Rattle.cgx_c_places.specs.Words.{cursor_words, cursor_in, told_at}
use Rattle.cgx_c_places.proofs.Places.{cursor-back}
use Rattle.cgx_c_views.specs.ViewWords.{head_words}
use Rattle.cgx_c_views.proofs.Stored.{view-stored}
use Rattle.cgx_c_fields.specs.Fill.{FilledIf}
use Rattle.cgx_c_step.specs.Lent.{StepLent, RecordIf}

-- ---- a record

module _ (f : List ℕ) (s : State) (r : KnownRecord) where
  abbrev body : List ℕ
  body = take (r.at + r.size - (r.at + 4)) (drop (r.at + 4) f)

  abbrev here : Bool
  here = allowed (context_in s) (Some r.kind)

  -- a record that breaks a rule leaves all as it was
  pub not-allowed : (p v : List ℕ) {a : Bool} → a ≡ here → a ≡ false → RecordIf f s r (Some 6) p v p v
  not-allowed p v a e =
      record { fault = λ x. first-6 here (Some r.kind) (record { type = x; flags = r.flags; body = body }) (sym a ∙ e); lent = λ z. absurd (none-some _ (sym z)); kept = λ z. (refl, refl) }

  module _ {a : Bool} (qa : a ≡ here) (ea : a ≡ true) {g : Bool} (qg : g ≡ good_flags r.kind r.flags) where
    pub bad-flags : (p v : List ℕ) → g ≡ false → RecordIf f s r (Some 7) p v p v
    bad-flags p v e = record { fault = λ x. flags-7 here (sym qa ∙ ea) r.kind r.flags body x qg e; lent = λ z. absurd (none-some _ (sym z)); kept = λ z. (refl, refl) }

    module _ (eg : g ≡ true) (m : Reached f s r) {n : Option ℕ} {v₀ v₁ : List ℕ} (d : FilledIf r.kind r.flags f r.at r.size n v₀ v₁) where
      fault-is : FaultIs here (Some r.kind) r.flags body n
      unfolding rec_at
      fault-is x =
          let h = m.heads.inside.held in
          let l = h.least in
          let q : r.size - 4 ≡ r.at + r.size - (r.at + 4) = omega arith in
          body-8 here (sym qa ∙ ea) r.kind r.flags body x qg eg (d.fault ∙ ap (λ (y : ℕ). body_fault r.kind r.flags (take y (drop (r.at + 4) f))) q)

      pub bad-body : (p : List ℕ) {k : ℕ} → n ≡ Some k → RecordIf f s r (Some k) p v₀ p v₁
      bad-body p z = record { fault = subst (FaultIs here (Some r.kind) r.flags body) z fault-is; lent = λ q. absurd (none-some _ (sym q)); kept = λ q. (refl, d.kept (λ y. none-some _ (sym y ∙ z))) }

      -- the fields, the head and the place after the record are stored
      pub record-lent : n ≡ None → (after : State) (count : ℕ) (p₀ p₁ v₂ : List ℕ) → after ≡ state_of (next (context_in s) r.at (Some r.kind)) → count ≡ taken_by r.kind s.count
          → v₂ ≡ put v₁ 0 (head_words r.kind r.flags r.at (offset_in after.cell) (offset_in after.layer) (run_in s.first count)) → p₁ ≡ cursor_words (record { at = r.at + r.size; state = after })
          → RecordIf f s r None p₀ v₀ p₁ v₂
      record-lent z after count p₀ p₁ v₂ q qc qh qp =
          let c = met m refl fault-is z in
          let w = moved s r.at r.kind m.low q in
          let b = d.filled z in
          let y = read_as (readable c.found) refl b.read in
          let v : View = record { kind = r.kind; flags = r.flags; fields = b.fields; at = r.at; cell = offset_in after.cell; layer = offset_in after.layer; run = run_in s.first count } in
          record {
            fault = subst (FaultIs here (Some r.kind) r.flags body) z fault-is;
            lent =
                λ u. record {
                  view = v;
                  viewed =
                      record {
                        means = view-is f r.at s after r.at r.size r.kind r.flags c.found w.0 b.fields (offset_in after.cell) (offset_in after.layer) (run_in s.first count) y.result_value refl refl (ap (run_in s.first) qc);
                        kind-is = y.kind;
                        offset-is = refl;
                        located = y.located;
                      };
                  words = view-stored v₀ f v v₁ v₂ b.words qh;
                  after = after;
                  follows = w;
                  place = qp;
                };
            kept = λ u. absurd (u refl);
          }

-- ---- a step from the lent words p₀ and v₀, and the lent number a₀

module _ (f p₀ v₀ : List ℕ) (a₀ : ℕ) {c : Cursor} (e : c ≡ cursor_in p₀) {o : Result (Option KnownRecord) Refusal} (h : SoughtIs f c o) where
  -- an end leaves all words as they were
  pub lent-refused : {r : Refusal} {a₁ : ℕ} → o ≡ Err r → a₁ ≡ told_at r.at a₀ → StepLent f p₀ v₀ a₀ r.number p₀ v₀ a₁
  lent-refused {r} q t = record { outcome = Refused r c; made = subst (λ (x : Cursor). StepMade f x (Refused r c)) e (sought-refused f c h q); answer = refl; place = refl; view = refl; offset = t; goes_on = refl }

  pub lent-done : o ≡ Ok None → StepLent f p₀ v₀ a₀ 256 p₀ v₀ a₀
  lent-done q = record { outcome = Done; made = subst (λ (x : Cursor). StepMade f x Done) e (sought-done f c h q); answer = refl; place = refl; view = refl; offset = refl; goes_on = refl }

  module _ {r : KnownRecord} {n : Option ℕ} {p₁ v₁ : List ℕ} (q : o ≡ Ok (Some r)) (d : RecordIf f c.state r n p₀ v₀ p₁ v₁) where
    pub lent-broken : {k : ℕ} → n ≡ Some k → StepLent f p₀ v₀ a₀ k p₁ v₁ r.at
    lent-broken {k} z =
        let y = Refused (record { number = k; at = Some r.at }) c in
        let b = broken-made (sought-known f c h q).0 refl d.fault c z in
        let x = d.kept (λ u. none-some _ (sym u ∙ z)) in
        record {
          outcome = y;
          made = subst (λ (x : Cursor). StepMade f x y) e (sought-made f c h q b);
          answer = refl;
          place = x.0;
          view = x.1;
          offset = refl;
          goes_on = ap cursor_in x.0;
        }

    pub lent-record : n ≡ None → StepLent f p₀ v₀ a₀ 0 p₁ v₁ a₀
    lent-record z =
        let u = d.lent z in
        let a : Cursor = record { at = r.at + r.size; state = u.after } in
        let m = known-made f c.state r.at r.size r.kind u.view u.after u.follows u.viewed in
        let g = judged-kept (sought-known f c h q).0 refl d.fault z in
        record {
          outcome = Record u.view a;
          made = subst (λ (x : Cursor). StepMade f x (Record u.view a)) e (sought-made f c h q (m.0 ∙ sym g, m.1 c, m.2));
          answer = refl;
          place = u.place;
          view = u.words;
          offset = refl;
          goes_on = ap cursor_in u.place ∙ cursor-back a (m.1 c);
        }
