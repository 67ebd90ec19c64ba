-- A step over the place, the view and the offset that C lends it: what it answers, and what it leaves in them. Definitions only.
use Rattle.std.specs.Prelude.{◌≡◌, List, ℕ, ◌+◌, ◌-◌, take, drop, Option, None, Some}
use Rattle.cgx_format_headers.specs.declared.KnownRecord.{KnownRecord}
use Rattle.cgx_spec.specs.Order.{allowed, next}
use Rattle.cgx_format_records.specs.Faults.{FaultIs}
use Rattle.cgx_format_kinds.specs.declared.View.{View}
use Rattle.cgx_read_walk.specs.declared.Outcome.{Outcome}
use Rattle.cgx_read_walk.specs.declared.Outcome.TheVariants.{Record, Done, Refused}
use Rattle.cgx_read_views.specs.RecordViews.{Viewed}
use Rattle.cgx_read_walk.specs.Walk.{StepMade}
use Rattle.cgx_format_cursor.specs.declared.State.{State}
use Rattle.cgx_format_cursor.specs.declared.Cursor.{Cursor}
use Rattle.cgx_format_cursor.specs.Cursors.{context_in, state_of}
use Rattle.buffers.specs.Put.{put}
use Rattle.cgx_c_places.specs.Words.{cursor_words, cursor_in, told_at}
use Rattle.cgx_c_views.specs.ViewWords.{view_words}

-- The answer: CGX_OK, CGX_DONE, or the refusal's number.
abbrev pub answer_of : Outcome → ℕ
answer_of (Record v q) = 0
answer_of Done = 256
answer_of (Refused r q) = r.number

-- The words of a place p, after a step from there: only a record moves it.
abbrev pub place_left : Outcome → List ℕ → List ℕ
place_left (Record v q) p = cursor_words q
place_left Done p = p
place_left (Refused r q) p = p

-- The words of a view: only a record of f fills it, from the first word on, and no word after its own changes.
abbrev pub view_left : List ℕ → Outcome → List ℕ → List ℕ
view_left f (Record v q) w = put w 0 (view_words f v)
view_left f Done w = w
view_left f (Refused r q) w = w

-- The offset that a refusal names: only a refusal that names one is told.
abbrev pub offset_left : Outcome → ℕ → ℕ
offset_left (Record v q) a = a
offset_left Done a = a
offset_left (Refused r q) a = told_at r.at a

-- Where the next step goes on.
abbrev pub next_from : Outcome → Cursor → Cursor
next_from (Record v q) p = q
next_from Done p = p
next_from (Refused r q) p = p

-- A step over the file f: from the words p₀ and v₀ of a place and a view, and a number a₀, it answers r and leaves p₁, v₁ and a₁.
pub record StepLent (f p₀ v₀ : List ℕ) (a₀ r : ℕ) (p₁ v₁ : List ℕ) (a₁ : ℕ) : Type 0 where
  pub outcome : Outcome
  -- It is what the step promises at the place that was lent,
  pub made : StepMade f (cursor_in p₀) outcome
  -- the answer says which,
  pub answer : r ≡ answer_of outcome
  -- and the lent memory holds it.
  pub place : p₁ ≡ place_left outcome p₀
  pub view : v₁ ≡ view_left f outcome v₀
  pub offset : a₁ ≡ offset_left outcome a₀
  pub goes_on : cursor_in p₁ ≡ next_from outcome (cursor_in p₀)

-- ---- the parts of a step

-- A known record of f after the state s is left in lent memory: the words p₁ of a place, and those of a view from v₀ to v₁.
pub record RecordLent (f : List ℕ) (s : State) (r : KnownRecord) (p₁ v₀ v₁ : List ℕ) : Type 0 where
  pub view : View
  pub viewed : Viewed f r.at (context_in s) r.at r.size r.kind view
  pub words : v₁ ≡ put v₀ 0 (view_words f view)
  -- after it
  pub after : State
  pub follows : (context_in after ≡ next (context_in s) r.at (Some r.kind)) × (after ≡ state_of (context_in after))
  pub place : p₁ ≡ cursor_words (record { at = r.at + r.size; state = after })

-- The record judged, and left there if it breaks no rule: n is the first of the rules 6 to 12 that it breaks, if any.
pub record RecordIf (f : List ℕ) (s : State) (r : KnownRecord) (n : Option ℕ) (p₀ v₀ p₁ v₁ : List ℕ) : Type 0 where
  pub fault : FaultIs (allowed (context_in s) (Some r.kind)) (Some r.kind) r.flags (take (r.at + r.size - (r.at + 4)) (drop (r.at + 4) f)) n
  pub lent : n ≡ None → RecordLent f s r p₁ v₀ v₁
  pub kept : (n ≡ None → ⊥) → (p₁ ≡ p₀) × (v₁ ≡ v₀)
