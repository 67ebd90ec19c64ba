-- Demand 3 of the maker's answers, from demand 3 of the definitions.
use Rattle.std.specs.Prelude.{None, Some, Ok, Err}
use mathlib.Core.Path.{◌≡◌, refl, sym, ap, ◌∙◌, subst}
use mathlib.Core.Logic.{◌↔◌, ◌⊎◌, inl, inr}
use mathlib.Core.Bool.{Bool, true, false, cond}
use mathlib.Core.List.{List, ◌++◌}
use Prim.Native.Nat.{ℕ, ◌≤◌, ◌<◌}
use native.Mathlib.Omega.{arith}
use borrow.Author.Tests.{leb-true, leb-false}
use lib.Dec.{leb}
use lib.ListN.{length, take, drop}
use lib.Seq.{take_at, drop_at}
use Rattle.cgx_spec.specs.Verdicts.{Verdict}
use Rattle.cgx_spec.specs.Verdicts.{accepted, refused}
use Rattle.cgx_spec.specs.Numbers.{Bytes}
use Rattle.cgx_spec.specs.Files.{verdict_of, Accepted, SameMeaning, normal_form}
use Rattle.cgx_spec.specs.Written.{AddedTo}
use Rattle.cgx_spec.proofs.Demand3.{demand3}
use Rattle.cgx_normal_form.specs.NormalAnswer.{of_length, refused_with, room_for, made, normal_answer_of, left, output_after}
use Rattle.cgx_normal_form.specs.Demand.{wrote, MakerDemands}
use Rattle.cgx_normal_form.proofs.Rests.{made-refused, by-room}

-- ---- what an answer says

record WasMade (f out : List ℕ) (n : ℕ) : Type 0 where
  taken : verdict_of f ≡ accepted
  long : n ≡ length (normal_form f)
  fits : n ≤ length out
  holds : output_after f out ≡ normal_form f ++ drop n out

never : {A : Type 0} (f : List ℕ) (n k : ℕ) (m : ℕ) → refused_with n (Some k) ≡ of_length m → A
never f n k m e = absurd (let z : ◌≡◌ {A = ℕ} 0 1 = cc in omega arith)

was-made : (f out : List ℕ) (n : ℕ) → normal_answer_of f (length out) ≡ of_length n → WasMade f out n
was-made f out n q = go (verdict_of f) refl
  where
    room : verdict_of f ≡ accepted → (b : Bool) → room_for f (length out) ≡ b → WasMade f out n
    room v true r =
        let y = by-room f out v true r in
        let e : of_length (length (normal_form f)) ≡ of_length n = y.0 ∙ q in
        let l : length (normal_form f) ≡ n = cc in
        record { taken = v; long = sym l; fits = (let h = leb-true (length (normal_form f)) (length out) r in omega arith); holds = sym y.1 ∙ ap (λ (k : ℕ). normal_form f ++ drop k out) l }
    room v false r =
        let e : refused_with 14 None ≡ of_length n = (by-room f out v false r).0 ∙ q in
        absurd (let z : ◌≡◌ {A = ℕ} 0 1 = cc in omega arith)

    go : (v : Verdict) → verdict_of f ≡ v → WasMade f out n
    go (Ok _) v = room v (room_for f (length out)) refl
    go (Err r) v = never f r.number r.at n ((made-refused f out v).0 ∙ q)

module _ (f out : List ℕ) (n : ℕ) (q : normal_answer_of f (length out) ≡ of_length n) where
  w : WasMade f out n
  w = was-made f out n q

  ok : Accepted f
  unfolding Accepted
  ok = w.taken

  wrote-is : wrote f out n ≡ normal_form f
  wrote-is = ap (take n) w.holds ∙ take_at (normal_form f) (drop n out) n (sym w.long)

  beyond : drop n (output_after f out) ≡ drop n out
  beyond = ap (drop n) w.holds ∙ drop_at (normal_form f) (drop n out) n (sym w.long)

-- ---- the demands

accepted-is : (f : List ℕ) → Accepted f → verdict_of f ≡ accepted
unfolding Accepted
accepted-is f a = a

is-accepted : (f : List ℕ) → verdict_of f ≡ accepted → Accepted f
unfolding Accepted
is-accepted f a = a

refuses : (f out : List ℕ) (n p : ℕ) → verdict_of f ≡ refused n p → (normal_answer_of f (length out) ≡ refused_with n (Some p)) × (output_after f out ≡ out)
refuses f out n p v = let r = made-refused f out v in (sym r.0, sym r.1)

makes : (f out : List ℕ) → verdict_of f ≡ accepted → (normal_answer_of f (length out) ≡ of_length (length (normal_form f))) ⊎ ((normal_answer_of f (length out) ≡ refused_with 14 None) × (length out < length (normal_form f)) × (output_after f out ≡ out))
makes f out v = go (room_for f (length out)) refl
  where
    go : (b : Bool) → room_for f (length out) ≡ b → (normal_answer_of f (length out) ≡ of_length (length (normal_form f))) ⊎ ((normal_answer_of f (length out) ≡ refused_with 14 None) × (length out < length (normal_form f)) × (output_after f out ≡ out))
    go true r = inl (sym (by-room f out v true r).0)
    go false r = let y = by-room f out v false r in inr (sym y.0, leb-false (length (normal_form f)) (length out) r, sym y.1)

writes : (f out : List ℕ) → verdict_of f ≡ accepted → length (normal_form f) ≤ length out → let n = length (normal_form f) in (normal_answer_of f (length out) ≡ of_length n) × (wrote f out n ≡ normal_form f)
writes f out v l = go (makes f out v)
  where
    n : ℕ
    n = length (normal_form f)

    go : (normal_answer_of f (length out) ≡ of_length n) ⊎ ((normal_answer_of f (length out) ≡ refused_with 14 None) × (length out < n) × (output_after f out ≡ out)) → (normal_answer_of f (length out) ≡ of_length n) × (wrote f out n ≡ normal_form f)
    go (inl e) = (e, wrote-is f out n e)
    go (inr e) = absurd (let s = e.1 in omega arith)

form-accepted : (f out : List ℕ) (n : ℕ) → Bytes f → normal_answer_of f (length out) ≡ of_length n → verdict_of (wrote f out n) ≡ accepted
form-accepted f out n h q = ap verdict_of (wrote-is f out n q) ∙ accepted-is (normal_form f) (demand3.form-accepted f h (ok f out n q))

form-means : (f out : List ℕ) (n : ℕ) → Bytes f → normal_answer_of f (length out) ≡ of_length n → SameMeaning (wrote f out n) f
form-means f out n h q = subst (λ (g : List ℕ). SameMeaning g f) (sym (wrote-is f out n q)) (demand3.form-means f h (ok f out n q))

form-unique : (f g out out' : List ℕ) (m n : ℕ) → Bytes f → Bytes g → normal_answer_of f (length out) ≡ of_length m → normal_answer_of g (length out') ≡ of_length n → SameMeaning f g ↔ (wrote f out m ≡ wrote g out' n)
form-unique f g out out' m n hf hg p q =
    let u = demand3.form-unique f g hf hg (ok f out m p) (ok g out' n q) in (
      (λ s. wrote-is f out m p ∙ u.0 s ∙ sym (wrote-is g out' n q)),
      (λ e. u.1 (sym (wrote-is f out m p) ∙ e ∙ wrote-is g out' n q)),
    )

form-again : (f out out' : List ℕ) (n : ℕ) → Bytes f → normal_answer_of f (length out) ≡ of_length n → n ≤ length out' → let g = wrote f out n in (normal_answer_of g (length out') ≡ of_length n) × (wrote g out' n ≡ g)
form-again f out out' n h q l = subst (λ (g : List ℕ). (normal_answer_of g (length out') ≡ of_length n) × (wrote g out' n ≡ g)) (sym (wrote-is f out n q)) (made_again, wrote-is (normal_form f) out' n made_again ∙ again)
  where
    again : normal_form (normal_form f) ≡ normal_form f
    again = demand3.form-again f h (ok f out n q)

    made_again : normal_answer_of (normal_form f) (length out') ≡ of_length n
    made_again = go (makes (normal_form f) out' (accepted-is (normal_form f) (demand3.form-accepted f h (ok f out n q))))
      where
        long : length (normal_form (normal_form f)) ≡ n
        long = ap length again ∙ sym (w f out n q).long

        go : (normal_answer_of (normal_form f) (length out') ≡ of_length (length (normal_form (normal_form f)))) ⊎ ((normal_answer_of (normal_form f) (length out') ≡ refused_with 14 None) × (length out' < length (normal_form (normal_form f))) × (output_after (normal_form f) out' ≡ out')) → normal_answer_of (normal_form f) (length out') ≡ of_length n
        go (inl e) = e ∙ ap of_length long
        go (inr e) = absurd (let s = e.1 in let k = long in omega arith)

form-added : (f g out : List ℕ) → Bytes f → verdict_of f ≡ accepted → AddedTo f g → (verdict_of g ≡ accepted) × (normal_answer_of g (length out) ≡ normal_answer_of f (length out)) × (output_after g out ≡ output_after f out)
unfolding normal_answer_of output_after
form-added f g out h v a =
    let d = demand3.form-added f g h (is-accepted f v) a in
    let x : verdict_of g ≡ accepted = accepted-is g d.0 in (
      x,
      ap (λ (y : Verdict). made y g (length out)) x ∙ ap (λ (k : List ℕ). cond (leb (length k) (length out)) (of_length (length k)) (refused_with 14 None)) d.1 ∙ sym (ap (λ (y : Verdict). made y f (length out)) v),
      ap (λ (y : Verdict). left y g out) x ∙ ap (λ (k : List ℕ). cond (leb (length k) (length out)) (k ++ drop (length k) out) out) d.1 ∙ sym (ap (λ (y : Verdict). left y f out) v),
    )

pub maker-demands : MakerDemands
maker-demands =
    record {
      refuses = refuses;
      makes = makes;
      writes = writes;
      beyond = beyond;
      form-accepted = form-accepted;
      form-means = form-means;
      form-unique = form-unique;
      form-again = form-again;
      form-added = form-added;
    }
