-- What is proved of the makers: what they append is what the calls append one after another, so that the writer's round trip speaks of it. Statements only.
use Rattle.std.specs.Prelude.{◌≡◌, true, false, List, [], ◌∷◌, ◌++◌, map, ℕ, ◌+◌, ◌*◌, ◌/◌, ◌%◌, ℤ, pos, length}
use Rattle.cgx_spec.specs.Numbers.{Bytes}
use Rattle.cgx_spec.specs.Strings.{padded}
use Rattle.cgx_spec.specs.Fields.{join}
use Rattle.cgx_spec.specs.Records.{bytes_of}
use Rattle.buffers.specs.Put.{longs_bytes}
use Rattle.cgx_write_given.specs.declared.Writer.{Writer}
use Rattle.cgx_write_given.specs.Given.{Given, written}
use Rattle.cgx_write_given.specs.Typed.{Longs, AllWell}
use Rattle.cgx_write_given.specs.Writing.{is_taken, writer_or, call_in, calls}
use Rattle.cgx_write_makers.specs.Makers.{corners, card_calls, frame_calls, all_in}
use Rattle.cgx_write_makers.specs.Former.{former_card, former_frame}

pub record MakersDemand : Type 0 where
  -- All of it: where a maker's records are taken, after any calls, each is taken by a call of its own, and writer and buffer are those of the calls.
  pub all : (buf : List ℕ) (w : Writer) (before gs : List Given) → let h = calls buf w before in let o = all_in h.buffer h.writer gs in
      is_taken o.answer ≡ true → calls buf w (before ++ gs) ≡ record { taken = h.taken ++ gs; writer = writer_or h.writer o.answer; buffer = o.buffer }
  -- Or nothing: no byte changes, and the writer to go on with is the old one.
  pub nothing : (buf : List ℕ) (w : Writer) (gs : List Given) → let o = all_in buf w gs in is_taken o.answer ≡ false → (o.buffer ≡ buf) × (writer_or w o.answer ≡ w)
  -- The first refusal is answered: that of the first record that the calls, taken in turn, refuse.
  pub first : (buf : List ℕ) (w : Writer) (before gs : List Given) (g : Given) → let h = calls buf w before in let a = (call_in h.buffer h.writer g).answer in
      h.taken ≡ before → is_taken a ≡ false → all_in buf w (before ++ (g ∷ gs)) ≡ record { answer = a; buffer = buf }
  -- What the makers give is well typed, as `any-calls` of the writer's round trip asks; each maker ensures it (`ensures typed`).
  pub card : (left bottom right top : ℤ) → Longs (left ∷ bottom ∷ right ∷ top ∷ []) → AllWell (card_calls left bottom right top)
  pub frame : (left bottom right top : ℤ) (label : List ℕ) → Longs (left ∷ bottom ∷ right ∷ top ∷ []) → Bytes label → AllWell (frame_calls left bottom right top label)

-- ---- Req 08: the makers "shall say 0 themselves so that their files do not change by a byte"

pub record MakersUnchanged : Type 0 where
  -- Their records, with 0 stated, are those that the former default gave.
  pub card : (left bottom right top : ℤ) → card_calls left bottom right top ≡ former_card left bottom right top
  pub frame : (left bottom right top : ℤ) (label : List ℕ) → frame_calls left bottom right top label ≡ former_frame left bottom right top label
  -- So from every buffer and writer the answer, refusals too, and every byte of the buffer are what they were.
  pub card-in : (buf : List ℕ) (w : Writer) (left bottom right top : ℤ) → all_in buf w (card_calls left bottom right top) ≡ all_in buf w (former_card left bottom right top)
  pub frame-in : (buf : List ℕ) (w : Writer) (left bottom right top : ℤ) (label : List ℕ) → all_in buf w (frame_calls left bottom right top label) ≡ all_in buf w (former_frame left bottom right top label)
  -- The bytes themselves, of a card: LAYER, then WIRE with flags 0 and width 2.
  pub card-bytes : (left bottom right top : ℤ) → join bytes_of (map written (card_calls left bottom right top))
      ≡ 0 ∷ 8 ∷ 4 ∷ 0 ∷ 0 ∷ 1 ∷ 0 ∷ 0 ∷ (0 ∷ 48 ∷ 7 ∷ 0 ∷ 0 ∷ 0 ∷ 0 ∷ 2 ∷ longs_bytes (corners left bottom right top))
  -- Of a frame: these, then TEXT with flags 0.
  pub frame-bytes : (left bottom right top : ℤ) (label : List ℕ) → let size = 18 + length label / 2 * 2 in join bytes_of (map written (frame_calls left bottom right top label))
      ≡ join bytes_of (map written (card_calls left bottom right top)) ++ (size / 256 ∷ size % 256 ∷ 8 ∷ 0 ∷ (longs_bytes (left ∷ bottom ∷ pos 2 ∷ []) ++ padded label))
