-- What the structs that a C caller gives a call say. Definitions only.
use Rattle.std.specs.Prelude.{List, [], ◌∷◌, ℕ, ◌^◌, ◌/◌, ◌%◌, ℤ, pos, get_or}
use Rattle.cgx_spec.specs.Numbers.{digits, twos, short_of}
use Rattle.cgx_format_kinds.specs.declared.Date.{Date}
use Rattle.cgx_format_kinds.specs.declared.LayerNo.{LayerNo}
use Rattle.cgx_format_kinds.specs.declared.DataType.{DataType}
use Rattle.cgx_format_kinds.specs.declared.Point.{Point}
use Rattle.cgx_format_kinds.specs.declared.Grid.{Grid}
use Rattle.cgx_write_given.specs.Given.{Given, given_sref}
use Rattle.cgx_write_makers.specs.Makers.{card_calls, frame_calls}
use Rattle.cgx_c_writer.specs.declared.Placement.{Placement}

-- A cgx_date is eight bytes: the year, its low byte first, the five numbers, and one that is not looked at.
abbrev pub date_in : List ℕ → Date
date_in d = record { year = short_of (get_or d 1 0 ∷ get_or d 0 0 ∷ []); month = get_or d 2 0; day = get_or d 3 0; hour = get_or d 4 0; minute = get_or d 5 0; second = get_or d 6 0 }

-- A cgx_real is one word: the eight bytes of a file, "the first byte highest".
abbrev pub real_in : List ℕ → List ℕ
real_in r = digits 8 (get_or r 0 0)

-- A cgx_layer_id: two shorts.
abbrev pub layer_no_in : List ℤ → LayerNo
layer_no_in id = record { 0 = get_or id 0 (pos 0) }

abbrev pub data_type_in : List ℤ → DataType
data_type_in id = record { 0 = get_or id 1 (pos 0) }

-- Two longs in a word, in two's complement.
unfoldable pub low_long : ℕ → ℤ
low_long w = twos (2 ^ 31) (w % 2 ^ 32)

unfoldable pub high_long : ℕ → ℤ
high_long w = twos (2 ^ 31) (w / 2 ^ 32)

-- A cgx_point.
abbrev pub point_in : ℕ → Point
point_in w = record { x = low_long w; y = high_long w }

-- Columns and rows, and the two points.
abbrev pub grid_in : ℕ → ℕ → ℕ → Grid
grid_in counts across up = record { cols = low_long counts; rows = high_long counts; across = point_in across; up = point_in up }

-- A cgx_placement is six words: the point, angle, magnif, and the array in three.
abbrev pub placement_in : List ℕ → Placement
placement_in p = record { at = point_in (get_or p 0 0); angle = digits 8 (get_or p 1 0); magnif = digits 8 (get_or p 2 0); grid = grid_in (get_or p 3 0) (get_or p 4 0) (get_or p 5 0) }

-- What an SREF with this placement is given.
abbrev pub given_placed : ℕ → List ℕ → List ℕ → Given
given_placed flags p name = let q = placement_in p in given_sref flags q.at q.angle q.magnif q.grid name

-- What the makers append around the sides of a cgx_box: left, bottom, right, top.
abbrev pub card_around : List ℤ → List Given
card_around s = card_calls (get_or s 0 (pos 0)) (get_or s 1 (pos 0)) (get_or s 2 (pos 0)) (get_or s 3 (pos 0))

abbrev pub frame_around : List ℤ → List ℕ → List Given
frame_around s label = frame_calls (get_or s 0 (pos 0)) (get_or s 1 (pos 0)) (get_or s 2 (pos 0)) (get_or s 3 (pos 0)) label
