-- What the writer does with what it is given: the start, one call, and calls one after another. Definitions only.
use Rattle.std.specs.Prelude.{Bool, not, ◌&&◌, cond, List, [], ◌∷◌, ◌++◌, map, ℕ, ◌+◌, leb, length, None, Option, Some, Result, Ok, Err, is_ok}
use Rattle.std.specs.Result.{result_unwrap_or}
use Rattle.cgx_spec.specs.declared.Context.{Context}
use Rattle.cgx_spec.specs.declared.Place.{Place}
use Rattle.cgx_spec.specs.declared.Refusal.{Refusal}
use Rattle.cgx_spec.specs.Dates.{within}
use Rattle.cgx_spec.specs.Fields.{join}
use Rattle.cgx_spec.specs.Kinds.{good_flags}
use Rattle.cgx_spec.specs.Order.{allowed}
use Rattle.cgx_spec.specs.Records.{size, bytes_of, Rule, rule, broken}
use Rattle.cgx_spec.specs.Files.{header}
use Rattle.cgx_spec.specs.Walking.{first_place, place_after, forged}
use Rattle.cgx_format_cursor.specs.Cursors.{context_in, place_in, cursor_of}
use Rattle.buffers.specs.Put.{put}
use Rattle.cgx_write_given.specs.declared.Writer.{Writer}
use Rattle.cgx_write_given.specs.Given.{Given, enough_given, keeps_given, written}

-- ---- a writer

-- Where its next record would begin, and what it has written before that.
abbrev pub offset_of : Writer → ℕ
offset_of w = w.cursor.at

abbrev pub context_of : Writer → Context
context_of w = context_in w.cursor.state

abbrev pub place_of : Writer → Place
place_of w = place_in w.cursor

abbrev pub writer_at : Place → Writer
writer_at p = record { cursor = cursor_of p }

-- The writer of a fresh start.
unfoldable pub first_writer : Writer
first_writer = writer_at first_place

-- The writer after a record: its place is that of a walk that has read the record.
unfoldable pub writer_after : Writer → Given → Writer
writer_after w g = writer_at (place_after (record { at = offset_of w; context = context_of w; rec = written g }))

-- ---- the rules

-- "size (short, header included, even, 4 to 65,534)"
abbrev pub max_size : ℕ
max_size = 65534

-- "Nothing follows ENDLIB (6)."
abbrev pub allowed_here : Context → Given → Bool
allowed_here c g = not c.ended && allowed c (Some g.kind)

-- 6, 7 to 12, 15: what the record itself breaks after this context.
unfoldable pub rules_of : Context → Given → List Rule
rules_of c g =
    rule 6 (allowed_here c g) ∷ rule 7 (good_flags g.kind g.flags) ∷ rule 8 (enough_given g) ∷ rule 9 (keeps_given 9 g) ∷ rule 10 (keeps_given 10 g)
    ∷ rule 11 (keeps_given 11 g)
    ∷ rule 12 (keeps_given 12 g)
    ∷ rule 15 (leb (size (written g)) max_size)
    ∷ []

-- "It checks 16 (as for a walk, against the buffer), 6, 7 to 12, 15, then 14." The buffer has n bytes.
unfoldable pub checks : ℕ → Writer → Given → List Rule
checks n w g = rule 16 (not (forged n (place_of w))) ∷ (rules_of (context_of w) g ++ (rule 14 (leb (offset_of w + size (written g)) n) ∷ []))

-- "The record's place is where it would begin": 6 to 12 name it, "a later number with no place stated names none".
abbrev pub named : ℕ → ℕ → Option ℕ
named n at = cond (within 6 12 n) (Some at) None

-- ---- one call

-- The writer after the record, or why the call is refused.
abbrev pub Answer : Type 0
Answer = Result Writer Refusal

abbrev pub is_taken : Answer → Bool
is_taken a = is_ok a

-- The number of the refusal, if any.
abbrev pub number_in : Answer → Option ℕ
number_in (Ok v) = None
number_in (Err r) = Some r.number

-- The writer to go on with: after a refusal, the one that the call was given.
abbrev pub writer_or : Writer → Answer → Writer
writer_or w a = result_unwrap_or a w

-- What is answered where no rule is broken, or the one with this number.
unfoldable pub answered : Writer → Given → Option ℕ → Answer
answered w g None = Ok (writer_after w g)
answered w g (Some n) = Err (record { number = n; at = named n (offset_of w) })

-- What a call answers where the buffer has n bytes.
unfoldable pub planned : ℕ → Writer → Given → Answer
planned n w g = answered w g (broken (checks n w g))

-- The answer, and the buffer as the call leaves it.
pub record Outcome : Type 0 where
  pub answer : Answer
  pub buffer : List ℕ

unfoldable pub call_in : List ℕ → Writer → Given → Outcome
call_in buf w g =
    let a = planned (length buf) w g in
    record { answer = a; buffer = cond (is_taken a) (put buf (offset_of w) (bytes_of (written g))) buf }

-- ---- the start

-- "The writer starts with the four bytes (14 if the buffer is shorter)."
unfoldable pub start_in : List ℕ → Outcome
start_in buf = cond (leb 4 (length buf)) (record { answer = Ok first_writer; buffer = put buf 0 header }) (record { answer = Err (record { number = 14; at = None }); buffer = buf })

-- ---- calls one after another

pub record History : Type 0 where
  -- what was given to the calls that were taken
  pub taken : List Given
  pub writer : Writer
  pub buffer : List ℕ

abbrev pub if_taken : Answer → Given → List Given → List Given
if_taken a g gs = cond (is_taken a) (g ∷ gs) gs

unfoldable pub calls : List ℕ → Writer → List Given → History
calls buf w [] = record { taken = []; writer = w; buffer = buf }
calls buf w (g ∷ gs) =
    let o = call_in buf w g in
    let h = calls o.buffer (writer_or w o.answer) gs in
    record { taken = if_taken o.answer g h.taken; writer = h.writer; buffer = h.buffer }

-- "from a fresh start"
unfoldable pub from_start : List ℕ → List Given → History
from_start buf gs = calls (start_in buf).buffer first_writer gs

-- The bytes of the four and of the records.
unfoldable pub file_of : List Given → List ℕ
file_of gs = header ++ join bytes_of (map written gs)
