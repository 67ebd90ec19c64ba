-- The laws of one step, by the header at its offset and the rules on its record. Assumes nothing.
use Rattle.std.specs.Prelude.{Err, None, Ok, Option, Result, Some}
use mathlib.Core.Path.{◌≡◌, refl, sym, ap, ◌∙◌, subst}
use mathlib.Core.Bool.{Bool, true, false, cond}
use mathlib.Core.List.{List, [], ◌∷◌}
use Prim.Native.Nat.{ℕ, ◌+◌, ◌-◌, ◌≤◌}
use native.Mathlib.Omega.{arith}
use lib.Dec.{T, ltb, ltb→lt}
use lib.ListN.{length, take, drop, get_or, length-drop}
use lib.Seq.{length-take-le}
use Rattle.cgx_spec.specs.declared.Kind.{Kind}
use Rattle.cgx_spec.specs.declared.Context.{Context}
use Rattle.cgx_spec.specs.Verdicts.{accepted as Accepted, refused as Refused}
use Rattle.cgx_spec.specs.Fields.{every}
use Rattle.cgx_spec.specs.Kinds.{kind_of}
use Rattle.cgx_spec.specs.Order.{allowed}
use Rattle.cgx_spec.specs.Records.{Rec, Rule, rules, broken, fault_of}
use Rattle.cgx_spec.specs.Files.{cut, stop, step, judge, settle, finish}
use Rattle.cgx_spec.specs.Walking.{rec_at, Held}
use Rattle.cgx_spec.proofs.Lists.{and_left, and_right}
use Rattle.cgx_format_bodies.specs.Bodies.{Body}
use Rattle.cgx_format_headers.specs.declared.Header.{Header}
use Rattle.cgx_format_headers.specs.Headers.{cut_meant, HeadIn, HeaderAt, Heads}
use Rattle.cgx_format_headers.proofs.HeaderLaws.{kind-says, flags-say}
use Rattle.cgx_format_headers.proofs.Heads.{header-in}
use Rattle.cgx_format_records.specs.Faults.{rule_fault, FaultIs}
use Rattle.cgx_read_steps.specs.Steps.{step_meant, Steps, ends, gives}
use Rattle.cgx_spec.specs.declared.FileRefusal.{FileRefusal}

-- the body of a record that lies in the file
pub held-body : (f : List ℕ) (at n : ℕ) → Held f at n → Body (take (at + n - (at + 4)) (drop (at + 4) f))
held-body f at n h =
    let a = h.least in
    let b = h.most in
    let e = h.even in
    let i = h.inside in
    let l = length-take-le (at + n - (at + 4)) (drop (at + 4) f) (omega (arith, length-drop (at + 4) f)) in
    record { even = omega arith; small = omega arith }

-- ---- one step

module _ (f : List ℕ) (c : Context) (at : ℕ) where
  ended_at : c.ended ≡ true → step c at (drop at f) ≡ stop (finish at (drop at f))
  unfolding step
  ended_at e = ap (λ (x : Bool). cond x (stop (finish at (drop at f))) (judge c at (cut (drop at f)))) e

  pub step-done : c.ended ≡ true → at ≡ length f → Steps f c at (ends Accepted)
  unfolding step_meant finish
  step-done e q = record { steps = ended_at e ∙ ap stop (go (drop at f) (length-drop at f)); inside = tt }
    where
      go : (l : List ℕ) → length l ≡ length f - at → finish at l ≡ Accepted
      go [] z = refl
      go (x ∷ l) z = absurd (omega arith)

  pub step-more : c.ended ≡ true → at ≤ length f → (at ≡ length f → ⊥) → Steps f c at (ends (Refused 13 at))
  unfolding step_meant finish
  step-more e h q = record { steps = ended_at e ∙ ap stop (go (drop at f) (length-drop at f)); inside = tt }
    where
      go : (l : List ℕ) → length l ≡ length f - at → finish at l ≡ Refused 13 at
      go [] z = absurd (q (omega arith))
      go (x ∷ l) z = refl

  module _ (r : Result Header FileRefusal) (e : c.ended ≡ false) (d : Heads f at r) where
    judged : step c at (drop at f) ≡ judge c at (cut_meant f at r)
    unfolding step
    judged = ap (λ (x : Bool). cond x (stop (finish at (drop at f))) (judge c at (cut (drop at f)))) e ∙ ap (judge c at) d.cuts

    pub step-bad : {k : FileRefusal} → r ≡ Err k → Steps f c at (ends (Err k))
    unfolding step_meant judge cut_meant
    step-bad {k} q =
        let here = (subst (HeadIn f at) q d.inside).1 in
        record {
          steps = judged ∙ ap (λ (x : Result Header FileRefusal). judge c at (cut_meant f at x)) q ∙ ap (λ (x : ℕ). stop (Refused k.number x)) (sym here);
          inside = tt;
        }

    -- by the rules on the record of the header
    module _ {h : Header} (q : r ≡ Ok h) {here : Bool} (a : here ≡ allowed c h.kind) {k : Option ℕ}
        (z : FaultIs here h.kind h.flags (take (at + h.size - (at + 4)) (drop (at + 4) f)) k) where
      abbrev whole : Rec
      whole = rec_at f at h.size

      abbrev kind : Option Kind
      kind = kind_of (get_or f (at + 2) 0)

      abbrev fault : Option ℕ
      fault = fault_of c whole

      header : HeaderAt f at h
      header = header-in f at d q

      same_number : k ≡ fault
      unfolding rec_at
      same_number =
          let b : at + h.size - (at + 4) ≡ h.size - 4 = omega arith in
          z (get_or f (at + 2) 0)
          ∙ ap (λ (x : Bool). rule_fault x h.kind (record { type = get_or f (at + 2) 0; flags = h.flags; body = take (at + h.size - (at + 4)) (drop (at + 4) f) })) a
          ∙ ap (λ (o : Option Kind). rule_fault (allowed c o) o (record { type = get_or f (at + 2) 0; flags = h.flags; body = take (at + h.size - (at + 4)) (drop (at + 4) f) })) (kind-says f at header.read)
          ∙ ap (λ (x : ℕ). rule_fault (allowed c kind) kind (record { type = get_or f (at + 2) 0; flags = x; body = take (at + h.size - (at + 4)) (drop (at + 4) f) })) (flags-say f at header.read)
          ∙ ap (λ (x : ℕ). rule_fault (allowed c kind) kind (record { type = get_or f (at + 2) 0; flags = get_or f (at + 3) 0; body = take x (drop (at + 4) f) })) b

      settled : step c at (drop at f) ≡ settle c at whole (drop (at + h.size) f) fault
      unfolding judge cut_meant
      settled = judged ∙ ap (λ (x : Result Header FileRefusal). judge c at (cut_meant f at x)) q

      pub step-go : k ≡ None → Steps f c at (gives h)
      unfolding step_meant settle
      step-go b =
          let n : fault ≡ None = sym same_number ∙ b in
          record {
            steps = settled ∙ ap (settle c at whole (drop (at + h.size) f)) n;
            inside = record { good = record { held = header.held; kept = n }; read = header.read };
          }

      pub step-broken : {n : ℕ} → k ≡ Some n → Steps f c at (ends (Refused n at))
      unfolding step_meant settle
      step-broken b = record { steps = settled ∙ ap (settle c at whole (drop (at + h.size) f)) (sym same_number ∙ b); inside = tt }
