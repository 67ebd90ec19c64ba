-- Several records planned from the room alone, and then stored, are calls in turn, all or none: a store changes no length. Assumes nothing.
use Rattle.std.specs.Prelude.{Ok, Err}
use Rattle.std.proofs.lemmas.Bool.{true≢false}
use mathlib.Core.Path.{◌≡◌, refl, sym, ap, ◌∙◌}
use mathlib.Core.Bool.{true, cond}
use mathlib.Core.List.{List, [], ◌∷◌, ◌++◌}
use Prim.Native.Nat.{ℕ}
use lib.ListN.{length}
use Rattle.cgx_spec.specs.Records.{bytes_of}
use Rattle.buffers.specs.Put.{put}
use Rattle.buffers.proofs.Puts.{put-length}
use Rattle.cgx_write_given.specs.declared.Writer.{Writer}
use Rattle.cgx_spec.specs.declared.Refusal.{Refusal}
use Rattle.cgx_write_given.specs.Given.{Given, written}
use Rattle.cgx_write_given.specs.Writing.{offset_of, writer_after, Answer, planned, Outcome, is_taken, writer_or, call_in}
use Rattle.cgx_write_given.proofs.Calls.{taken, by_answer}
use Rattle.cgx_write_makers.specs.Makers.{in_turn, all_in}
use Rattle.cgx_write_makers.specs.Planned.{all_planned, all_stored}

-- ---- the plan and the stores are the calls

abbrev Turns : List Given → Type 0
Turns gs = (buf : List ℕ) (w : Writer) → let o = in_turn buf w gs in (o.answer ≡ all_planned (length buf) w gs) × (is_taken o.answer ≡ true → o.buffer ≡ all_stored buf w gs)

turns : (gs : List Given) → Turns gs
unfolding in_turn all_planned all_stored call_in
turns [] buf w = (refl, λ z. refl)
turns (g ∷ gs) buf w =
    let b = put buf (offset_of w) (bytes_of (written g)) in
    let v = writer_after w g in
    let r = turns gs b v in
    by_answer
    (λ a. let o : Outcome = record { answer = a; buffer = cond (is_taken a) b buf } in let t = cond (is_taken a) (in_turn o.buffer (writer_or w a) gs) o in
    (t.answer ≡ cond (is_taken a) (all_planned (length buf) (writer_or w a) gs) a) × (is_taken t.answer ≡ true → t.buffer ≡ all_stored b v gs))
    (length buf) w g
    (λ e. (r.0 ∙ ap (λ (n : ℕ). all_planned n v gs) (put-length buf (offset_of w) (bytes_of (written g))), r.1))
    (λ m e. (refl, λ z. absurd (true≢false (sym z))))

module _ (buf : List ℕ) (w : Writer) (gs : List Given) where
  abbrev last : Outcome
  last = in_turn buf w gs

  pub all-refused : (r : Refusal) → all_planned (length buf) w gs ≡ Err r → record { answer = Err r; buffer = buf } ≡ all_in buf w gs
  unfolding all_in
  all-refused r e = let q : last.answer ≡ Err r = (turns gs buf w).0 ∙ e in rw q refl

  pub all-taken : (v : Writer) (out : List ℕ) → all_planned (length buf) w gs ≡ Ok v → out ≡ all_stored buf w gs → record { answer = Ok v; buffer = out } ≡ all_in buf w gs
  unfolding all_in
  all-taken v out e s =
      let t = turns gs buf w in
      let q : last.answer ≡ Ok v = t.0 ∙ e in
      rw q (ap (λ (x : List ℕ). record { answer = Ok v; buffer = x }) (s ∙ sym (t.1 (ap is_taken q))))

-- ---- plans in turn

pub plan-last : (room : ℕ) (w : Writer) (g : Given) → planned room w g ≡ all_planned room w (g ∷ [])
unfolding all_planned
plan-last room w g = by_answer (λ a. a ≡ cond (is_taken a) (Ok (writer_or w a)) a) room w g (λ e. refl) (λ m e. refl)

-- more records after those of a plan
plan-more : (room : ℕ) (hs gs : List Given) (w : Writer) → let a = all_planned room w gs in all_planned room w (gs ++ hs) ≡ cond (is_taken a) (all_planned room (writer_or w a) hs) a
unfolding all_planned
plan-more room hs [] w = refl
plan-more room hs (g ∷ gs) w =
    by_answer
    (λ a. let t = cond (is_taken a) (all_planned room (writer_or w a) gs) a in cond (is_taken a) (all_planned room (writer_or w a) (gs ++ hs)) a ≡ cond (is_taken t) (all_planned room (writer_or w t) hs) t)
    room w g (λ e. plan-more room hs gs (writer_after w g) ∙ onward (writer_after w g) w (all_planned room (writer_after w g) gs)) (λ m e. refl)
  where
    onward : (v w : Writer) (a : Answer) → cond (is_taken a) (all_planned room (writer_or v a) hs) a ≡ cond (is_taken a) (all_planned room (writer_or w a) hs) a
    onward v w (Ok x) = refl
    onward v w (Err r) = refl

module _ (room : ℕ) (hs gs : List Given) (w : Writer) where
  pub more-stops : (r : Refusal) → all_planned room w gs ≡ Err r → Err r ≡ all_planned room w (gs ++ hs)
  more-stops r e = sym (plan-more room hs gs w ∙ rw e)

  pub more-goes : (v : Writer) (a : Answer) → all_planned room w gs ≡ Ok v → a ≡ all_planned room v hs → a ≡ all_planned room w (gs ++ hs)
  more-goes v a e q = q ∙ sym (plan-more room hs gs w ∙ rw e)

-- a plan that is taken is taken of its first record, and after it
pub plan-good : (room : ℕ) (w : Writer) (g : Given) (gs : List Given) → is_taken (all_planned room w (g ∷ gs)) ≡ true → (planned room w g ≡ taken w g) × (is_taken (all_planned room (writer_after w g) gs) ≡ true)
unfolding all_planned
plan-good room w g gs =
    by_answer (λ a. is_taken (cond (is_taken a) (all_planned room (writer_or w a) gs) a) ≡ true → (a ≡ taken w g) × (is_taken (all_planned room (writer_after w g) gs) ≡ true)) room w g
    (λ e z. (refl, z)) (λ m e z. absurd (true≢false (sym z)))
