-- What the makers append, and how: all or nothing. Definitions only.
use Rattle.std.specs.Prelude.{cond, List, [], ◌∷◌, ◌++◌, ℕ, ℤ, pos, None, Option, Some, Ok}
use Rattle.cgx_format_kinds.specs.declared.Point.{Point}
use Rattle.cgx_write_given.specs.declared.Writer.{Writer}
use Rattle.cgx_write_given.specs.Given.{Given, given_layer, given_wire, given_text}
use Rattle.cgx_write_given.specs.Writing.{Outcome, is_taken, writer_or, call_in}

-- ---- what is appended

-- "left-bottom, right-bottom, right-top, left-top and back"
abbrev pub corners : ℤ → ℤ → ℤ → ℤ → List ℤ
corners left bottom right top = left ∷ bottom ∷ right ∷ bottom ∷ right ∷ top ∷ left ∷ top ∷ left ∷ bottom ∷ []

-- "LAYER 1, data type 0, unnamed, and a wire of width 2"
abbrev pub card_layer : Given
card_layer = given_layer (record { 0 = pos 1 }) (record { 0 = pos 0 }) None

-- Req 08: the makers "relied on flush ends, and shall say 0 themselves".
abbrev pub card_style : Option ℕ
card_style = Some 0

abbrev pub card_wire : List ℤ → Given
card_wire points = given_wire card_style (pos 2) points

abbrev pub outline : List ℤ → List Given
outline points = card_layer ∷ card_wire points ∷ []

abbrev pub card_calls : ℤ → ℤ → ℤ → ℤ → List Given
card_calls left bottom right top = outline (corners left bottom right top)

-- "the same two, then a TEXT at left-bottom, width 2, flags 0, with a given label"
abbrev pub caption : Point → List ℕ → Given
caption at label = given_text 0 at (pos 2) label

abbrev pub frame_calls : ℤ → ℤ → ℤ → ℤ → List ℕ → List Given
frame_calls left bottom right top label = card_calls left bottom right top ++ (caption (record { x = left; y = bottom }) label ∷ [])

-- ---- all or nothing

-- "its records taken in turn": calls one after another, up to the first refusal.
unfoldable pub in_turn : List ℕ → Writer → List Given → Outcome
in_turn buf w [] = record { answer = Ok w; buffer = buf }
in_turn buf w (g ∷ gs) =
    let o = call_in buf w g in
    cond (is_taken o.answer) (in_turn o.buffer (writer_or w o.answer) gs) o

-- "Each appends all or nothing and answers the first refusal.", after which the writer that there was before them all goes on.
unfoldable pub all_in : List ℕ → Writer → List Given → Outcome
all_in buf w gs =
    let o = in_turn buf w gs in
    record { answer = o.answer; buffer = cond (is_taken o.answer) o.buffer buf }
