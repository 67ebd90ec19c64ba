-- The judge's answers, case by case: the walk of every context that fits the phase. Assumes nothing.
use Rattle.std.specs.Prelude.{Err, None, Ok, Option, Result, Some}
use mathlib.Core.Path.{◌≡◌, refl, sym, ap, ◌∙◌, subst}
use mathlib.Core.Bool.{Bool, true, false, cond}
use mathlib.Core.List.{List, [], ◌∷◌}
use Prim.Native.Nat.{ℕ, ◌+◌, ◌-◌, ◌≤◌}
use lib.ListN.{length, take, drop}
use Rattle.cgx_spec.specs.declared.Context.{Context}
use Rattle.cgx_spec.specs.Verdicts.{Verdict}
use Rattle.cgx_spec.specs.Verdicts.{accepted as Accepted, refused as Refused}
use Rattle.cgx_spec.specs.Order.{allowed, next}
use Rattle.cgx_spec.specs.Records.{Rec, fault_of}
use Rattle.cgx_spec.specs.Files.{Cut, bad, found, cut, Step, stop, go as go_on, settle, judge, finish, step}
use Rattle.cgx_spec.proofs.Verdicts.{StepNamed, step-named}
use Rattle.cgx_format_headers.specs.declared.Header.{Header}
use Rattle.cgx_format_headers.specs.Headers.{HeaderAt, Heads}
use Rattle.cgx_format_headers.proofs.HeaderLaws.{kind-says}
use Rattle.cgx_format_headers.proofs.Heads.{header-in}
use Rattle.cgx_format_records.specs.Faults.{FaultIs}
use Rattle.cgx_format_records.proofs.Rules.{rule-6-kept}
use Rattle.cgx_read_steps.specs.Steps.{step_meant, Steps, ends as Stopped, gives as go}
use Rattle.cgx_read_steps.proofs.Steps.{step-done, step-more, step-bad, step-go, step-broken}
use Rattle.cgx_read_steps.proofs.Walks.{good, walked_stop, walked-go}
use Rattle.cgx_format_phases.specs.declared.Phase.{Phase}
use Rattle.cgx_format_phases.specs.Phases.{is_ended, allowed_phase, after_phase, Fits}
use Rattle.cgx_format_phases.proofs.Fitting.{ended_is, allowed-is, fits_on}
use Rattle.cgx_read_judge.specs.Judging.{Here, Ends, Judges}
use Rattle.cgx_spec.specs.declared.FileRefusal.{FileRefusal}

-- a step that stops
abbrev HereIn : ℕ → Step → Type 0
HereIn at (stop v) = Here at v
HereIn at (go_on p bs) = Unit {0}

here_in : (c : Context) (at : ℕ) (bs : List ℕ) → HereIn at (step c at bs)
unfolding step judge settle finish
here_in c at bs = one c.ended bs
  where
    three : (r : Rec) (rest : List ℕ) (o : Option ℕ) → HereIn at (settle c at r rest o)
    three r rest None = tt
    three r rest (Some n) = refl

    two : (x : Cut) → HereIn at (judge c at x)
    two (bad n) = refl
    two (found r rest) = three r rest (fault_of c r)

    end : (bs : List ℕ) → HereIn at (stop (finish at bs))
    end [] = tt
    end (b ∷ bs) = refl

    one : (z : Bool) (bs : List ℕ) → HereIn at (cond z (stop (finish at bs)) (judge c at (cut bs)))
    one true bs = end bs
    one false bs = two (cut bs)

stops : (f : List ℕ) (c : Context) (at : ℕ) {v : Verdict} → Steps f c at (Stopped v) → Ends f c at v
unfolding step_meant
stops f c at e =
    record {
      walk = walked_stop f c at e refl;
      named = subst (StepNamed (drop at f)) e.steps (step-named c at (drop at f));
      here = subst (HereIn at) e.steps (here_in c at (drop at f));
    }

module _ (f : List ℕ) (p : Phase) (at : ℕ) where
  module _ (e : is_ended p ≡ true) where
    pub judge-done : at ≡ length f → Judges f p at (Ok None)
    unfolding Judges
    judge-done l = λ c g. stops f c at (step-done f c at (ended_is p c g ∙ e) l)

    pub judge-more : at ≤ length f → (at ≡ length f → ⊥) → Judges f p at (Err (record { number = 13; at = at }))
    unfolding Judges
    judge-more i l = λ c g. stops f c at (step-more f c at (ended_is p c g ∙ e) i l)

  module _ (e : is_ended p ≡ false) (r : Result Header FileRefusal) (d : Heads f at r) where
    pub judge-bad : {k : FileRefusal} → r ≡ Err k → Judges f p at (Err k)
    unfolding Judges
    judge-bad s = λ c g. stops f c at (step-bad f c at r (ended_is p c g ∙ e) d s)

    -- by the rules on the record of the header, after the phase that it leads to
    module _ (h : Header) (s : r ≡ Ok h) {q : Phase} {here : Bool} {k : Option ℕ} (t : q ≡ after_phase p h.kind) (a : here ≡ allowed_phase q)
        (z : FaultIs here h.kind h.flags (take (at + h.size - (at + 4)) (drop (at + 4) f)) k) where
      header : HeaderAt f at h
      header = header-in f at d s

      module _ (c : Context) (g : Fits p c) where
        allowed-here : here ≡ allowed c h.kind
        allowed-here = a ∙ ap allowed_phase t ∙ sym (allowed-is p c g e at h.kind)

        stepped : k ≡ None → Steps f c at (go h)
        stepped b = step-go f c at r (ended_is p c g ∙ e) d s allowed-here z b

        fits_after : k ≡ None → Fits q (next c at h.kind)
        fits_after b =
            let y = rule-6-kept here h.kind (record { type = 0; flags = h.flags; body = take (at + h.size - (at + 4)) (drop (at + 4) f) }) (sym b ∙ z 0) in
            subst (λ (x : Phase). Fits x (next c at h.kind)) (sym t) (fits_on p c g e at h.kind (sym allowed-here ∙ y))

      pub judge-broken : {n : ℕ} → k ≡ Some n → Judges f p at (Err (record { number = n; at = at }))
      unfolding Judges
      judge-broken b = λ c g. stops f c at (step-broken f c at r (ended_is p c g ∙ e) d s (allowed-here c g) z b)

      pub judge-go : k ≡ None → Judges f p at (Ok (Some (record { header = h; phase = q })))
      unfolding Judges
      judge-go b =
          record {
            held = header.held;
            read = header.read;
            goes = λ c g. record {
              kept = (good f c at (stepped c g b) refl).kept;
              fits = fits_after c g b;
              walk = walked-go f c at (stepped c g b) refl (ap (next c at) (kind-says f at header.read));
            };
          }
