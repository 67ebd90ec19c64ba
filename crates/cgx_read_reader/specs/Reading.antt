-- Where a step leaves a reader. Definitions only.
use Rattle.std.specs.Prelude.{List, ◌≡◌, ℕ}
use Rattle.cgx_format_cursor.specs.declared.Cursor.{Cursor}
use Rattle.cgx_read_walk.specs.declared.Outcome.{Outcome}
use Rattle.cgx_read_walk.specs.declared.Outcome.TheVariants.{Record, Done, Refused}
use Rattle.cgx_read_walk.specs.Walk.{StepMade}

-- "the next known record and a new place, done, or a refusal with the old place"
unfoldable pub left_at : Cursor → Outcome → Cursor
left_at p (Record v q) = q
left_at p Done = p
left_at p (Refused r q) = p

-- What a step over the file f from the place p promises of its answer r and of the place p' after it.
pub record Moves (f : List ℕ) (p : Cursor) (r : Outcome) (p' : Cursor) : Type 0 where
  pub made : StepMade f p r
  pub left : p' ≡ left_at p r
