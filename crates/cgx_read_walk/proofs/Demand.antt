-- Demand 2 of the reader's answers, from the theorem on steps of the definitions.
use Rattle.std.specs.Prelude.{Ok}
use mathlib.Core.Path.{◌≡◌, refl, sym, ap, ◌∙◌, subst}
use mathlib.Core.List.{List, ◌++◌}
use Prim.Native.Nat.{ℕ, zero, suc}
use lib.ListN.{length}
use Rattle.cgx_spec.specs.Files.{header, views_of, verdict_of, opening}
use Rattle.cgx_spec.specs.Demands.{AnswerNamed}
use Rattle.cgx_spec.specs.Walking.{first_place, ending, and_then, reads, step_of}
use Rattle.cgx_spec.proofs.Verdicts as verdicts
use Rattle.cgx_spec.proofs.Steps.{reading-law}
use Rattle.cgx_format_kinds.specs.Meant.{view_meant}
use Rattle.cgx_format_cursor.specs.declared.Cursor.{Cursor}
use Rattle.cgx_format_cursor.specs.Cursors.{place_in, cursor_of}
use Rattle.cgx_format_cursor.proofs.Laws.{first-in}
use Rattle.cgx_read_walk.specs.declared.Outcome.{Outcome}
use Rattle.cgx_read_walk.specs.declared.Outcome.TheVariants.{Record, Done, Refused}
use Rattle.cgx_read_walk.specs.Walk.{start_of, answer_meant, StepMade}
use Rattle.cgx_read_walk.specs.Demand.{given, WalkDemand}

module _ (f : List ℕ) (next : Cursor → Outcome) (h : (p : Cursor) → StepMade f p (next p)) where
  given_is : (n : ℕ) (o : Outcome) → given n f next o ≡ reads n f (answer_meant f o)
  unfolding given reads answer_meant
  given_is zero (Record v p) = refl
  given_is (suc n) (Record v p) = ap (and_then (view_meant f v)) (given_is n (next p) ∙ ap (reads n f) (h p).means)
  given_is zero Done = refl
  given_is (suc n) Done = refl
  given_is zero (Refused r p) = refl
  given_is (suc n) (Refused r p) = refl

starts : (bs : List ℕ) → start_of (header ++ bs) ≡ Ok (cursor_of first_place)
unfolding start_of opening
starts bs = refl

reads_all : (bs : List ℕ) (next : Cursor → Outcome) → let f = header ++ bs in ((p : Cursor) → StepMade f p (next p)) → given (length f) f next (next (cursor_of first_place)) ≡ record { views = views_of f; last = ending (verdict_of f) }
reads_all bs next h =
    let f = header ++ bs in
    given_is f next h (length f) (next (cursor_of first_place)) ∙ ap (reads (length f) f) (((h (cursor_of first_place)).means ∙ ap (step_of f) first-in)) ∙ reading-law.steps bs

steps-named : (f : List ℕ) (p : Cursor) (r : Outcome) → StepMade f p r → AnswerNamed (answer_meant f r)
steps-named f p r h = subst AnswerNamed (sym h.means) (verdicts.steps-named f (place_in p))

pub walk-demand : WalkDemand
walk-demand = record { starts = starts; reads_all = reads_all; steps-named = steps-named }
