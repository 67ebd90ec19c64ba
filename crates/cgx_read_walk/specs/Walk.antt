-- What the answers of a walk mean, in the terms of the format: this paper's numbers and values for each case. Definitions only.
use Rattle.std.specs.Prelude.{List, ◌≡◌, false, ℕ, zero, suc, ◌+◌, ◌<◌, ◌≤◌, length, drop, None, Ok, Some, Result, Err, Option}
use Rattle.cgx_spec.specs.declared.Context.{Context}
use Rattle.cgx_spec.specs.declared.Kind.{Kind}
use Rattle.cgx_spec.specs.Files.{opening, step}
use Rattle.cgx_spec.specs.Order.{next}
use Rattle.cgx_spec.specs.Records.{Placed, view_of}
use Rattle.cgx_spec.specs.Walking.{first_place, Answer, seen, done, refused_at, ending, answer, step_of, rec_at}
use Rattle.cgx_format_kinds.specs.Meant.{fields_kind, view_meant}
use Rattle.cgx_spec.specs.declared.FileRefusal.{FileRefusal}
use Rattle.cgx_spec.specs.declared.Refusal.{Refusal}
use Rattle.cgx_format_headers.specs.declared.Header.{Header}
use Rattle.cgx_format_headers.specs.declared.KnownRecord.{KnownRecord}
use Rattle.cgx_format_headers.specs.Headers.{Heads}
use Rattle.cgx_format_cursor.specs.declared.State.{State}
use Rattle.cgx_format_cursor.specs.declared.Cursor.{Cursor}
use Rattle.cgx_format_cursor.specs.Cursors.{context_in, place_in, cursor_of}
use Rattle.cgx_read_fields.specs.Views.{FieldsAt}
use Rattle.cgx_read_views.specs.RecordViews.{Found}
use Rattle.cgx_read_walk.specs.declared.Outcome.{Outcome}
use Rattle.cgx_read_walk.specs.declared.Outcome.TheVariants.{Record, Done, Refused}

-- "starting gives 1 or 2"
abbrev pub started : ℕ → Result Cursor FileRefusal
started zero = Ok (cursor_of first_place)
started (suc n) = Err (record { number = suc n; at = 0 })

unfoldable pub start_of : List ℕ → Result Cursor FileRefusal
start_of f = started (opening f)

-- A step over the file f.
unfoldable pub answer_meant : List ℕ → Outcome → Answer
answer_meant f (Record v q) = seen (view_meant f v) (place_in q)
answer_meant f Done = done
answer_meant f (Refused r q) = refused_at r.number r.at

-- "a refusal with the old place": the very cursor that was given. After a record every member of the new cursor is that of the place after it, 0 where the place has none.
abbrev pub Left : Cursor → Outcome → Type 0
Left c (Record v q) = q ≡ cursor_of (place_in q)
Left c Done = Unit {0}
Left c (Refused r q) = q ≡ c

-- The fields of a view are those of its kind. Its texts and lists begin where the record has them, and end at the new place or before: so their counts are the bytes' own. Its reals
-- are the answers of their bytes.
abbrev pub Located : List ℕ → Outcome → Type 0
Located f (Record v q) = (fields_kind v.fields ≡ v.kind) × FieldsAt v.flags f v.at q.at v.fields
Located f Done = Unit {0}
Located f (Refused r q) = Unit {0}

-- What a step promises of its answer.
pub record StepMade (f : List ℕ) (c : Cursor) (r : Outcome) : Type 0 where
  pub means : answer_meant f r ≡ step_of f (place_in c)
  pub left : Left c r
  pub located : Located f r

-- ---- the next known record

-- What a step from an offset and a context on answers.
abbrev pub answer_from : List ℕ → Context → ℕ → Answer
answer_from f c at = answer (length f) (step c at (drop at f))

-- A known record's header.
abbrev pub header_in : KnownRecord → Header
header_in r = record { size = r.size; kind = Some r.kind; flags = r.flags }

-- A known record lies in the file at an offset that a record can have, after a state that ENDLIB has not ended and in which one more PROPERTY can be
-- counted. Its rules are not judged.
pub record Reached (f : List ℕ) (s : State) (r : KnownRecord) : Type 0 where
  pub heads : Heads f r.at (Ok (header_in r))
  pub unended : s.ended ≡ false
  pub low : 0 < r.at
  pub few : s.count ≤ r.at

-- What a step comes to.
abbrev pub SoughtIs : List ℕ → Cursor → Result (Option KnownRecord) Refusal → Type 0
SoughtIs f c (Err r) = refused_at r.number r.at ≡ step_of f (place_in c)
SoughtIs f c (Ok None) = done ≡ step_of f (place_in c)
SoughtIs f c (Ok (Some r)) = Reached f c.state r × (answer_from f (context_in c.state) r.at ≡ step_of f (place_in c))

-- It breaks no rule.
pub record Met (f : List ℕ) (s : State) (at n : ℕ) (k : Kind) (fl : ℕ) : Type 0 where
  pub found : Found f (context_in s) at n k fl
  pub low : 0 < at
  pub few : s.count ≤ at

-- Its view, and the place after it.
abbrev pub placed_at : List ℕ → Context → ℕ → ℕ → Placed
placed_at f c at n = record { at = at; context = c; rec = rec_at f at n }

abbrev pub found_meant : List ℕ → Context → ℕ → ℕ → Kind → Answer
found_meant f c at n k = seen (view_of k (placed_at f c at n)) (record { at = at + n; context = next c at (Some k) })
