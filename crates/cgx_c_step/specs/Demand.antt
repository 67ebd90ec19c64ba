-- Demand 2 in a C caller's memory: what a caller is given that steps from the first place until a step answers something else than 0. Statements only.
use Rattle.std.specs.Prelude.{◌≡◌, List, [], ◌++◌, ℕ, zero, suc, length, None}
use Rattle.cgx_spec.specs.Files.{header, views_of, verdict_of}
use Rattle.cgx_spec.specs.Walking.{first_place, refused_at, ending, Reads, and_then}
use Rattle.cgx_format_kinds.specs.Meant.{view_meant}
use Rattle.cgx_format_cursor.specs.Cursors.{cursor_of}
use Rattle.cgx_read_walk.specs.declared.Outcome.{Outcome}
use Rattle.cgx_read_walk.specs.declared.Outcome.TheVariants.{Record, Done, Refused}
use Rattle.cgx_read_walk.specs.Walk.{answer_meant}
use Rattle.cgx_c_places.specs.Words.{cursor_words}
use Rattle.cgx_c_step.specs.Lent.{StepLent}

-- What a caller lends: the words of a place and of a view, and a number for an offset.
pub record Memory : Type 0 where
  pub place : List ℕ
  pub view : List ℕ
  pub at : ℕ

-- What a step over f from there answers and leaves, as it promises.
pub record LentStep (f : List ℕ) (m : Memory) : Type 0 where
  pub answer : ℕ
  pub left : Memory
  pub lent : StepLent f m.place m.view m.at answer left.place left.view left.at

-- A caller to whom a step has left the memory m with this outcome, and that asks at most n times more: the views whose words it is left, and the answer that ends them.
unfoldable pub given_in : ℕ → (f : List ℕ) → ((m : Memory) → LentStep f m) → Memory → Outcome → Reads
given_in zero f next m (Record v q) = record { views = []; last = refused_at 0 None }
given_in (suc n) f next m (Record v q) = and_then (view_meant f v) (given_in n f next (next m).left (next m).lent.outcome)
given_in zero f next m Done = record { views = []; last = answer_meant f Done }
given_in (suc n) f next m Done = record { views = []; last = answer_meant f Done }
given_in zero f next m (Refused r q) = record { views = []; last = answer_meant f (Refused r q) }
given_in (suc n) f next m (Refused r q) = record { views = []; last = answer_meant f (Refused r q) }

pub record LentStepsDemand : Type 0 where
  -- Whatever the steps answer and leave, as long as it is what they promise: from the first place on, with a view and a number that hold anything, the caller is given exactly the views of
  -- the file's known records, and then its verdict.
  pub reads_all : (bs : List ℕ) → let f = header ++ bs in (next : (m : Memory) → LentStep f m) (m : Memory) → m.place ≡ cursor_words (cursor_of first_place)
      → given_in (length f) f next (next m).left (next m).lent.outcome ≡ record { views = views_of f; last = ending (verdict_of f) }
