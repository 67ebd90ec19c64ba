-- What a call of the writer leaves in a C caller's memory: the words of its writer, the number `at`, and the buffer. Definitions only.
use Rattle.std.specs.Prelude.{cond, List, [], ◌∷◌, ◌++◌, ℕ, Option, None, Ok, Err}
use Rattle.cgx_c_places.specs.Words.{cursor_words, cursor_in, told_at}
use Rattle.cgx_write_given.specs.declared.Writer.{Writer}
use Rattle.cgx_write_given.specs.Given.{Given}
use Rattle.cgx_write_given.specs.Typed.{AllWell}
use Rattle.cgx_write_given.specs.Writing.{Answer, Outcome, is_taken, start_in}
use Rattle.cgx_write_makers.specs.Makers.{all_in}

-- The writer that a caller's words say.
abbrev pub writer_in : List ℕ → Writer
writer_in w = record { cursor = cursor_in w }

-- The answer's number, 0 where the call is taken.
abbrev pub number_told : Answer → ℕ
number_told (Ok v) = 0
number_told (Err r) = r.number

-- The words of the writer, where w are those before: a refusal "hands back its old place", every bit of it.
abbrev pub words_after : List ℕ → Answer → List ℕ
words_after w (Ok v) = cursor_words v.cursor
words_after w (Err r) = w

-- The number for an offset: only a refusal that names one changes it.
abbrev pub offset_told : Answer → ℕ → ℕ
offset_told (Ok v) at = at
offset_told (Err r) at = told_at r.at at

-- The place that it names, if any.
abbrev pub place_named : Answer → Option ℕ
place_named (Ok v) = None
place_named (Err r) = r.at

-- What a call returns, and what it leaves in the memory that it was lent.
pub record Lent : Type 0 where
  pub number : ℕ
  pub writer : List ℕ
  pub at : ℕ
  pub buffer : List ℕ

-- Of a call with this outcome, where the writer's words and `at` were these.
abbrev pub lent : List ℕ → ℕ → Outcome → Lent
lent w at o = record { number = number_told o.answer; writer = words_after w o.answer; at = offset_told o.answer at; buffer = o.buffer }

-- ---- the start, which names no offset

pub record LentStart : Type 0 where
  pub number : ℕ
  pub writer : List ℕ
  pub buffer : List ℕ

abbrev pub lent_start : List ℕ → Outcome → LentStart
lent_start w o = record { number = number_told o.answer; writer = words_after w o.answer; buffer = o.buffer }

-- ---- calls and makers one after another, each with what the one before it left; a call gives one record, a maker several

-- The words of a writer, a number for offsets and a buffer, as a caller holds them.
pub record Held : Type 0 where
  pub writer : List ℕ
  pub at : ℕ
  pub buffer : List ℕ

-- What a start leaves.
abbrev pub held_at_start : Held → Held
held_at_start m = let l = lent_start m.writer (start_in m.buffer) in record { writer = l.writer; at = m.at; buffer = l.buffer }

abbrev pub outcome_from : Held → List Given → Outcome
outcome_from m gs = all_in m.buffer (writer_in m.writer) gs

abbrev pub held_after : Held → List Given → Held
held_after m gs = let l = lent m.writer m.at (outcome_from m gs) in record { writer = l.writer; at = l.at; buffer = l.buffer }

unfoldable pub held_after_all : Held → List (List Given) → Held
held_after_all m [] = m
held_after_all m (gs ∷ gss) = held_after_all (held_after m gs) gss

-- The records that are taken.
unfoldable pub taken_from : Held → List (List Given) → List Given
taken_from m [] = []
taken_from m (gs ∷ gss) = cond (is_taken (outcome_from m gs).answer) gs [] ++ taken_from (held_after m gs) gss

abbrev pub EachWell : List (List Given) → Type 0
EachWell [] = Unit {0}
EachWell (gs ∷ gss) = AllWell gs × EachWell gss
