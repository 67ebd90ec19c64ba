-- Which place of the definitions a cursor is, and the cursor of a place: 0 is no offset, and a count of 0 no run. Definitions only.
use Rattle.std.specs.Prelude.{Bool, true, false, not, ◌&&◌, cond, ℕ, ◌+◌, eqb, None, Option, Some}
use Rattle.cgx_spec.specs.declared.Kind.{Kind}
use Rattle.cgx_spec.specs.declared.Kind.TheVariants.{Library, Struct, Cprpty, Property, Layer, Box, Poly, Wire, Text, Sref, Endlib}
use Rattle.cgx_spec.specs.declared.Run.{Run}
use Rattle.cgx_spec.specs.declared.Context.{Context}
use Rattle.cgx_spec.specs.declared.Place.{Place}
use Rattle.cgx_format_cursor.specs.declared.State.{State}
use Rattle.cgx_format_cursor.specs.declared.Cursor.{Cursor}

-- ---- the place that a cursor is

unfoldable pub offset_in : ℕ → Option ℕ
offset_in n = cond (eqb n 0) None (Some n)

unfoldable pub run_in : ℕ → ℕ → Option Run
run_in first count = cond (eqb count 0) None (Some (record { first = first; count = count }))

unfoldable pub context_in : State → Context
context_in s = record { library = s.library; cell = offset_in s.cell; layer = offset_in s.layer; fresh = s.fresh; run = run_in s.first s.count; ended = s.ended }

unfoldable pub place_in : Cursor → Place
place_in c = record { at = c.at; context = context_in c.state }

-- ---- the cursor of a place

abbrev pub offset_number : Option ℕ → ℕ
offset_number None = 0
offset_number (Some n) = n

abbrev pub run_first : Option Run → ℕ
run_first None = 0
run_first (Some r) = r.first

abbrev pub run_count : Option Run → ℕ
run_count None = 0
run_count (Some r) = r.count

unfoldable pub state_of : Context → State
state_of c =
    record {
      cell = offset_number c.cell;
      layer = offset_number c.layer;
      first = run_first c.run;
      count = run_count c.run;
      library = c.library;
      fresh = c.fresh;
      ended = c.ended;
    }

unfoldable pub cursor_of : Place → Cursor
cursor_of p = record { at = p.at; state = state_of p.context }

-- ---- the tables of the code, which its contracts tie to those of the format

abbrev pub is_set : ℕ → Bool
is_set n = not (eqb n 0)

-- Rule 6: the needs of a kind that a state meets.
abbrev pub needs_met : State → Kind → Bool
needs_met s Library = not s.library && eqb s.count 0
needs_met s Struct = s.library && eqb s.count 0
needs_met s Cprpty = s.library && is_set s.cell && eqb s.count 0 && s.fresh
needs_met s Property = s.library && is_set s.cell
needs_met s Layer = s.library && is_set s.cell && eqb s.count 0
needs_met s Box = s.library && is_set s.cell && is_set s.layer
needs_met s Poly = s.library && is_set s.cell && is_set s.layer
needs_met s Wire = s.library && is_set s.cell && is_set s.layer
needs_met s Text = s.library && is_set s.cell && is_set s.layer
needs_met s Sref = s.library && is_set s.cell
needs_met s Endlib = s.library && eqb s.count 0

-- Any kind but PROPERTY leaves none that await an object.
abbrev pub none_awaiting : State → ℕ → Bool → Bool → State
none_awaiting s layer fresh ended =
    record { cell = s.cell; layer = layer; first = 0; count = 0; library = s.library; fresh = fresh; ended = ended }

-- The first of a run with one more PROPERTY at an offset.
unfoldable pub first_of : ℕ → ℕ → ℕ → ℕ
first_of first count at = cond (eqb count 0) at first

-- The state after a record of this kind at an offset.
abbrev pub state_after : State → ℕ → Kind → State
state_after s at Library = record { cell = 0; layer = 0; first = 0; count = 0; library = true; fresh = false; ended = false }
state_after s at Struct = record { cell = at; layer = 0; first = 0; count = 0; library = s.library; fresh = true; ended = false }
state_after s at Cprpty = none_awaiting s s.layer s.fresh false
state_after s at Property =
    record { cell = s.cell; layer = s.layer; first = first_of s.first s.count at; count = s.count + 1; library = s.library; fresh = false; ended = false }
state_after s at Layer = none_awaiting s at false false
state_after s at Box = none_awaiting s s.layer false false
state_after s at Poly = none_awaiting s s.layer false false
state_after s at Wire = none_awaiting s s.layer false false
state_after s at Text = none_awaiting s s.layer false false
state_after s at Sref = none_awaiting s s.layer false false
state_after s at Endlib = none_awaiting s s.layer false true
