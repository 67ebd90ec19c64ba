-- Demand 2 in a C caller's memory, from the theorem on steps of the definitions: each step goes on where the one before it has left the place. Assumes nothing.
use mathlib.Core.Path.{◌≡◌, refl, sym, ap, ◌∙◌}
use mathlib.Core.List.{List, ◌++◌}
use Prim.Native.Nat.{ℕ, zero, suc}
use lib.ListN.{length}
use Rattle.cgx_spec.specs.Files.{header, views_of, verdict_of}
use Rattle.cgx_spec.specs.Walking.{first_place, ending, and_then, reads, step_of}
use Rattle.cgx_spec.proofs.Steps.{reading-law}
use Rattle.cgx_format_kinds.specs.Meant.{view_meant}
use Rattle.cgx_format_cursor.specs.declared.Cursor.{Cursor}
use Rattle.cgx_format_cursor.specs.Cursors.{place_in, cursor_of}
use Rattle.cgx_format_cursor.proofs.Laws.{first-in}
use Rattle.cgx_read_walk.specs.declared.Outcome.{Outcome}
use Rattle.cgx_read_walk.specs.declared.Outcome.TheVariants.{Record, Done, Refused}
use Rattle.cgx_read_walk.specs.Walk.{answer_meant}
use Rattle.cgx_c_places.specs.Words.{cursor_words, cursor_in}
use Rattle.cgx_c_places.proofs.Places.{cursor-back}
use Rattle.cgx_c_step.specs.Lent.{next_from}
use Rattle.cgx_c_step.specs.Demand.{Memory, LentStep, given_in, LentStepsDemand}

module _ (f : List ℕ) (next : (m : Memory) → LentStep f m) where
  -- what a step from a memory means
  means-at : (m : Memory) (c : Cursor) → cursor_in m.place ≡ c → answer_meant f (next m).lent.outcome ≡ step_of f (place_in c)
  means-at m c e = (next m).lent.made.means ∙ ap (λ (x : Cursor). step_of f (place_in x)) e

  given_is : (n : ℕ) (m : Memory) (o : Outcome) (c : Cursor) → cursor_in m.place ≡ next_from o c → given_in n f next m o ≡ reads n f (answer_meant f o)
  unfolding given_in reads answer_meant
  given_is zero m (Record v q) c e = refl
  given_is (suc n) m (Record v q) c e =
      ap (and_then (view_meant f v)) (given_is n (next m).left (next m).lent.outcome (cursor_in m.place) (next m).lent.goes_on ∙ ap (reads n f) (means-at m q e))
  given_is zero m Done c e = refl
  given_is (suc n) m Done c e = refl
  given_is zero m (Refused r q) c e = refl
  given_is (suc n) m (Refused r q) c e = refl

reads_all : (bs : List ℕ) → let f = header ++ bs in (next : (m : Memory) → LentStep f m) (m : Memory) → m.place ≡ cursor_words (cursor_of first_place)
    → given_in (length f) f next (next m).left (next m).lent.outcome ≡ record { views = views_of f; last = ending (verdict_of f) }
reads_all bs next m e =
    let f = header ++ bs in
    let c = ap cursor_in e ∙ cursor-back (cursor_of first_place) (ap cursor_of (sym first-in)) in
    given_is f next (length f) (next m).left (next m).lent.outcome (cursor_in m.place) (next m).lent.goes_on
    ∙ ap (reads (length f) f) (means-at f next m (cursor_of first_place) c ∙ ap (step_of f) first-in)
    ∙ reading-law.steps bs

pub lent-steps-demand : LentStepsDemand
lent-steps-demand = record { reads_all = reads_all }
