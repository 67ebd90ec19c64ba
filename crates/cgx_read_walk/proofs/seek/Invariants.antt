-- The invariant: the step comes to what the walk from here on comes to, with the state that the place has.
use mathlib.Core.Path.{◌≡◌}
use Prim.Native.Nat.{◌-◌, ◌<◌, ◌≤◌}
use lib.ListN.{length}
use Rattle.cgx_spec.specs.Walking.{step_of}
use Rattle.cgx_format_cursor.specs.Cursors.{context_in, place_in}
use Rattle.cgx_read_walk.specs.Walk.{answer_from}
use Rattle.cgx_read_walk.proofs.seek.Given as goal

abbrev pub invariant-loop-h : goal.invariant-loop-h
invariant-loop-h l = (l.at ≤ length l.file) × (0 < l.at) × (l.s.count ≤ l.at) × (step_of l.file (place_in (record { at = l.initial.at; state = l.s })) ≡ answer_from l.file (context_in l.s) l.at)

abbrev pub decreases-loop-h : goal.decreases-loop-h
decreases-loop-h l = length l.file - l.at
