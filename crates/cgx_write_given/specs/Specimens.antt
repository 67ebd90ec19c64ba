-- The calls that write 01's drawing of 96 bytes, and the same on leap seconds. Definitions only.
use Rattle.std.specs.Prelude.{List, [], ◌∷◌, ℕ, pos, negsuc, None}
use Rattle.cgx_format_kinds.specs.declared.Date.{Date}
use Rattle.cgx_write_given.specs.Given.{Given, given_library, given_struct, given_layer, given_box, given_endlib}

-- 1, as a normal real and as another.
abbrev normal_one : List ℕ
normal_one = 0x41 ∷ 0x10 ∷ 0 ∷ 0 ∷ 0 ∷ 0 ∷ 0 ∷ 0 ∷ []

abbrev other_one : List ℕ
other_one = 0x42 ∷ 0x01 ∷ 0 ∷ 0 ∷ 0 ∷ 0 ∷ 0 ∷ 0 ∷ []

-- Two days, at a second.
abbrev pub begun : ℕ → Date
begun s = record { year = pos 1990; month = 1; day = 1; hour = 0; minute = 0; second = s }

abbrev pub ended : ℕ → Date
ended s = record { year = pos 2000; month = 2; day = 28; hour = 23; minute = 59; second = s }

-- "LIBRARY named `m`, STRUCT `a`, unnamed LAYER, one box, ENDLIB", with these seconds: LIBRARY's two, then STRUCT's.
abbrev pub drawn_at : ℕ → ℕ → ℕ → ℕ → List Given
drawn_at a b c d =
    given_library 7 normal_one other_one (begun a) (begun b) (0x6d ∷ [])
    ∷ given_struct (ended c) (ended d) (0x61 ∷ [])
    ∷ given_layer (record { 0 = pos 1 }) (record { 0 = pos 0 }) None
    ∷ given_box (negsuc 0 ∷ pos 0 ∷ pos 10 ∷ pos 20 ∷ [])
    ∷ given_endlib
    ∷ []

abbrev pub drawing_calls : List Given
drawing_calls = drawn_at 0 0 59 59

-- Req 02: "a drawing stamped on a leap second".
abbrev pub stamped_calls : List Given
stamped_calls = drawn_at 60 60 60 60
