-- Demand 2 of the reader's own answers: what a caller is given that calls `start` and then `step` until it says something else than a record. Statements only.
use Rattle.std.specs.Prelude.{◌≡◌, List, [], ◌++◌, ℕ, zero, suc, length, None, Ok}
use Rattle.cgx_spec.specs.Files.{header, views_of, verdict_of}
use Rattle.cgx_spec.specs.Demands.{AnswerNamed}
use Rattle.cgx_spec.specs.Walking.{first_place, refused_at, ending, Reads, and_then}
use Rattle.cgx_format_kinds.specs.Meant.{view_meant}
use Rattle.cgx_format_cursor.specs.declared.Cursor.{Cursor}
use Rattle.cgx_format_cursor.specs.Cursors.{cursor_of}
use Rattle.cgx_read_walk.specs.declared.Outcome.{Outcome}
use Rattle.cgx_read_walk.specs.declared.Outcome.TheVariants.{Record, Done, Refused}
use Rattle.cgx_read_walk.specs.Walk.{start_of, answer_meant, StepMade}

-- A caller that asks at most n times more: the views that it is given, and the answer that ends them.
unfoldable pub given : ℕ → List ℕ → (Cursor → Outcome) → Outcome → Reads
given zero f next (Record v p) = record { views = []; last = refused_at 0 None }
given (suc n) f next (Record v p) = and_then (view_meant f v) (given n f next (next p))
given zero f next Done = record { views = []; last = answer_meant f Done }
given (suc n) f next Done = record { views = []; last = answer_meant f Done }
given zero f next (Refused r p) = record { views = []; last = answer_meant f (Refused r p) }
given (suc n) f next (Refused r p) = record { views = []; last = answer_meant f (Refused r p) }

pub record WalkDemand : Type 0 where
  -- A file that begins well is started at the first place,
  pub starts : (bs : List ℕ) → start_of (header ++ bs) ≡ Ok (cursor_of first_place)
  -- and whatever `step` answers for each place, as long as it is what it promises, the caller is given exactly the views of the file's known records, and then its verdict.
  pub reads_all : (bs : List ℕ) (next : Cursor → Outcome) → let f = header ++ bs in ((p : Cursor) → StepMade f p (next p)) → given (length f) f next (next (cursor_of first_place)) ≡ record { views = views_of f; last = ending (verdict_of f) }
  -- From every place, a made-up one too, what `step` answers is a record, done, or refused with a number of the table: 16 and no place, or 3 to 13 and a place.
  pub steps-named : (f : List ℕ) (p : Cursor) (r : Outcome) → StepMade f p r → AnswerNamed (answer_meant f r)
