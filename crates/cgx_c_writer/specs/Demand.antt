-- What is proved of the writer in a C caller's memory: the words that a call leaves say, to the next call, the writer that it answered, so that what is promised of the
-- writer holds there. Statements only.
use Rattle.std.specs.Prelude.{◌≡◌, List, [], ◌∷◌, true, false, ℕ, ◌≤◌, length, None}
use Rattle.cgx_write_given.specs.declared.Writer.{Writer}
use Rattle.cgx_write_given.specs.Given.{Given}
use Rattle.cgx_write_given.specs.Writing.{context_of, first_writer, writer_or, is_taken, Outcome, call_in, start_in, calls}
use Rattle.cgx_write_given.specs.Demands.{ReadBack}
use Rattle.cgx_write_makers.specs.Makers.{all_in}
use Rattle.cgx_c_writer.specs.Lent.{writer_in, place_named, lent, lent_start, Held, held_at_start, held_after_all, taken_from, EachWell}

pub record LentWriterDemand : Type 0 where
  -- A start that is taken gives the writer to begin with,
  pub start : (buf w : List ℕ) → is_taken (start_in buf).answer ≡ true → writer_in (lent_start w (start_in buf)).writer ≡ first_writer
  -- and each call, taken or refused, and each maker, the writer to go on with: the one that it answers, or after a refusal the one that it was given.
  pub call : (buf w : List ℕ) (at : ℕ) (g : Given) → let o = call_in buf (writer_in w) g in writer_in (lent w at o).writer ≡ writer_or (writer_in w) o.answer
  pub maker : (buf w : List ℕ) (at : ℕ) (gs : List Given) → let o = all_in buf (writer_in w) gs in writer_in (lent w at o).writer ≡ writer_or (writer_in w) o.answer
  -- A call is a maker of one record. So calls and makers in a row do what the writer's calls of the records that they take do, which take them all,
  pub single : (buf : List ℕ) (w : Writer) (g : Given) → all_in buf w (g ∷ []) ≡ call_in buf w g
  pub in-turn : (m : Held) (gss : List (List Given)) → let n = held_after_all m gss in let gs = taken_from m gss in calls m.buffer (writer_in m.writer) gs ≡ record { taken = gs; writer = writer_in n.writer; buffer = n.buffer }
  -- and after a start, any of them, refused ones too, and an ENDLIB that is taken last, what was taken is read back from the buffer's beginning. `EachWell` is what the C functions ensure of what
  -- they are given (`typed`).
  pub read_back : (m : Held) (gss : List (List Given)) → 4 ≤ length m.buffer → EachWell gss → let b = held_at_start m in let n = held_after_all b gss in
      (context_of (writer_in n.writer)).ended ≡ true → ReadBack (record { taken = taken_from b gss; writer = writer_in n.writer; buffer = n.buffer })
  -- What is refused leaves every word of the writer,
  pub refusal : (w : List ℕ) (at : ℕ) (o : Outcome) → is_taken o.answer ≡ false → (lent w at o).writer ≡ w
  pub start-refusal : (buf w : List ℕ) → is_taken (start_in buf).answer ≡ false → (lent_start w (start_in buf)).writer ≡ w
  -- and what names no offset leaves `at`: a call that is taken, and a refusal without a place.
  pub unnamed : (w : List ℕ) (at : ℕ) (o : Outcome) → place_named o.answer ≡ None → (lent w at o).at ≡ at
