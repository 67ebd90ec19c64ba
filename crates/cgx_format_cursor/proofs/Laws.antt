-- Offsets and runs as numbers, where 0 is none. Assumes nothing.
use Rattle.std.specs.Prelude.{None, Option, Some}
use mathlib.Core.Path.{◌≡◌, refl, sym, ap, ap₂, ◌∙◌}
use mathlib.Core.Bool.{Bool, true, false, not, ◌&&◌}
use Prim.Native.Nat.{ℕ, zero, suc, ◌+◌, ◌<◌}
use lib.Dec.{eqb, leb, leb-zero, eqb-suc-zero}
use Rattle.cgx_spec.specs.Order.{start, present, awaiting, longer, allowed, next}
use Rattle.cgx_spec.specs.Walking.{first_place, offset_up_to, run_up_to}
use Rattle.cgx_spec.specs.declared.Kind.{Kind}
use Rattle.cgx_spec.specs.declared.Kind.TheVariants.{Library, Struct, Cprpty, Property, Layer, Box, Poly, Wire, Text, Sref, Endlib}
use Rattle.cgx_spec.specs.declared.Run.{Run}
use Rattle.cgx_spec.specs.declared.Context.{Context}
use Rattle.cgx_spec.proofs.Lists.{and-true, and_assoc}
use native.Mathlib.Omega.{arith}
use Rattle.cgx_format_cursor.specs.declared.State.{State}
use Rattle.cgx_format_cursor.specs.Cursors.{offset_in, run_in, context_in, place_in, offset_number, run_first, run_count, state_of, cursor_of, needs_met, none_awaiting, first_of, state_after}

-- ---- needs, as `every` has them

module _ (a : Bool) {b y : Bool} (q : b ≡ y) where
  both : (a && b) ≡ (a && (y && true))
  both = ap (λ (v : Bool). a && v) (q ∙ sym (and-true y))

  three : {c z : Bool} → c ≡ z → (a && b && c) ≡ (a && (y && (z && true)))
  three {c} {z} r = sym (and_assoc a b c) ∙ ap (λ (v : Bool). a && v) (ap₂ ◌&&◌ q (r ∙ sym (and-true z)))

  four : {c z : Bool} → c ≡ z → (d : Bool) → (a && b && c && d) ≡ (a && (y && (z && (d && true))))
  four {c} {z} r d =
      sym (and_assoc (a && b) c d) ∙ sym (and_assoc a b (c && d)) ∙ ap (λ (v : Bool). a && v) (ap₂ ◌&&◌ q (ap₂ ◌&&◌ r (sym (and-true d))))

-- ---- tests

pub offset_up : (at n : ℕ) → leb n at ≡ offset_up_to at (offset_in n)
unfolding offset_in
offset_up at zero = leb-zero at
offset_up at (suc n) = rw (eqb-suc-zero n) refl

pub run_up : (at first count : ℕ) → (count ≡ 0 → ⊥) → (leb first at && leb count at) ≡ run_up_to at (run_in first count)
unfolding run_in
run_up at first zero h = elim (h refl) [ ]
run_up at first (suc n) h = rw (eqb-suc-zero n) refl

pub present-in : (n : ℕ) → not (eqb n 0) ≡ present (offset_in n)
unfolding offset_in
present-in zero = refl
present-in (suc n) = rw (eqb-suc-zero n) refl

pub awaits-in : (first count : ℕ) → eqb count 0 ≡ not (awaiting (run_in first count))
unfolding run_in
awaits-in first zero = refl
awaits-in first (suc n) = rw (eqb-suc-zero n) refl

-- ---- from numbers and back

pub at_in : (n : ℕ) → 0 < n → offset_in n ≡ Some n
unfolding offset_in
at_in zero h = let z : ⊥ = omega (arith, h) in elim z [ ]
at_in (suc n) h = rw (eqb-suc-zero n) refl

pub run_in_lem : (first n : ℕ) → 0 < n → run_in first n ≡ Some (record { first = first; count = n })
unfolding run_in
run_in_lem first zero h = let z : ⊥ = omega (arith, h) in elim z [ ]
run_in_lem first (suc n) h = rw (eqb-suc-zero n) refl

none_in : offset_in 0 ≡ None
unfolding offset_in
none_in = refl

pub number-back : (n : ℕ) → n ≡ offset_number (offset_in n)
unfolding offset_in
number-back zero = refl
number-back (suc n) = rw (eqb-suc-zero n) refl

-- ---- a run with one more

pub first-kept : (first count at : ℕ) → (count ≡ 0 → ⊥) → first ≡ first_of first count at
unfolding first_of
first-kept first zero at h = elim (h refl) [ ]
first-kept first (suc n) at h = rw (eqb-suc-zero n) refl

-- the numbers of a run say that run
pub run-first : (first n : ℕ) → first_of first n 0 ≡ run_first (run_in first n)
unfolding run_in first_of
run-first first zero = refl
run-first first (suc n) = rw (eqb-suc-zero n) refl

pub run-count : (first n : ℕ) → n ≡ run_count (run_in first n)
unfolding run_in
run-count first zero = refl
run-count first (suc n) = rw (eqb-suc-zero n) refl

more-first : (first count at : ℕ) → first_of first count at ≡ run_first (longer (run_in first count) at)
unfolding run_in first_of
more-first first zero at = refl
more-first first (suc n) at = rw (eqb-suc-zero n) refl

more-count : (first count at : ℕ) → count + 1 ≡ run_count (longer (run_in first count) at)
unfolding run_in
more-count first zero at = refl
more-count first (suc n) at = rw (eqb-suc-zero n) refl

longer-back : (first count at : ℕ) → run_in (run_first (longer (run_in first count) at)) (run_count (longer (run_in first count) at)) ≡ longer (run_in first count) at
unfolding run_in
longer-back first zero at = refl
longer-back first (suc n) at = rw (eqb-suc-zero n) (run_in_lem first (suc n + 1) (omega arith))

-- ---- rule 6

pub met-is : (s : State) (k : Kind) → needs_met s k ≡ allowed (context_in s) (Some k)
unfolding allowed context_in
met-is s Library = both (not s.library) (awaits-in s.first s.count)
met-is s Struct = both s.library (awaits-in s.first s.count)
met-is s Cprpty = four s.library (present-in s.cell) (awaits-in s.first s.count) s.fresh
met-is s Property = both s.library (present-in s.cell)
met-is s Layer = three s.library (present-in s.cell) (awaits-in s.first s.count)
met-is s Box = three s.library (present-in s.cell) (present-in s.layer)
met-is s Poly = three s.library (present-in s.cell) (present-in s.layer)
met-is s Wire = three s.library (present-in s.cell) (present-in s.layer)
met-is s Text = three s.library (present-in s.cell) (present-in s.layer)
met-is s Sref = both s.library (present-in s.cell)
met-is s Endlib = both s.library (awaits-in s.first s.count)

-- an unknown record needs a LIBRARY before it
pub unknown-needs : (s : State) → s.library ≡ allowed (context_in s) None
unfolding allowed context_in
unknown-needs s = sym (and-true s.library)

-- ---- the state after a record

-- what a state is where the cell stays, and where the layer does too
module _ (s : State) where
  abbrev with_cell : ℕ → ℕ → ℕ → ℕ → Bool → Bool → State
  with_cell cell layer first count fresh ended = record { cell = cell; layer = layer; first = first; count = count; library = s.library; fresh = fresh; ended = ended }

  cell-back : (layer : ℕ) (fresh ended : Bool) → none_awaiting s layer fresh ended ≡ with_cell (offset_number (offset_in s.cell)) layer 0 0 fresh ended
  cell-back layer fresh ended = ap (λ (n : ℕ). with_cell n layer 0 0 fresh ended) (number-back s.cell)

  both-back : (fresh ended : Bool) → none_awaiting s s.layer fresh ended ≡ with_cell (offset_number (offset_in s.cell)) (offset_number (offset_in s.layer)) 0 0 fresh ended
  both-back fresh ended = cell-back s.layer fresh ended ∙ ap (λ (n : ℕ). with_cell (offset_number (offset_in s.cell)) n 0 0 fresh ended) (number-back s.layer)

  pub after_is : (at : ℕ) (k : Kind) → state_after s at k ≡ state_of (next (context_in s) at (Some k))
  unfolding state_of context_in
  after_is at Library = refl
  after_is at Struct = refl
  after_is at Cprpty = both-back s.fresh false
  after_is at Property =
      λ i. with_cell (number-back s.cell i) (number-back s.layer i) (more-first s.first s.count at i) (more-count s.first s.count at i) false false
  after_is at Layer = cell-back at false false
  after_is at Box = both-back false false
  after_is at Poly = both-back false false
  after_is at Wire = both-back false false
  after_is at Text = both-back false false
  after_is at Sref = both-back false false
  after_is at Endlib = both-back false true

-- a number that came from an offset goes back to it
back : (n : ℕ) → offset_in (offset_number (offset_in n)) ≡ offset_in n
back n = ap offset_in (sym (number-back n))

module _ (s : State) where
  abbrev context : Option ℕ → Option ℕ → Option Run → Bool → Bool → Context
  context cell layer run fresh ended = record { library = s.library; cell = cell; layer = layer; fresh = fresh; run = run; ended = ended }

  -- the state of the context after a record at an offset is that context
  pub next-in : (at : ℕ) (k : Kind) → 0 < at → context_in (state_of (next (context_in s) at (Some k))) ≡ next (context_in s) at (Some k)
  unfolding state_of context_in run_in
  next-in at Library h = λ i. record { library = true; cell = none_in i; layer = none_in i; fresh = false; run = None; ended = false }
  next-in at Struct h = λ i. context (at_in at h i) (none_in i) None true false
  next-in at Cprpty h = λ i. context (back s.cell i) (back s.layer i) None s.fresh false
  next-in at Property h = λ i. context (back s.cell i) (back s.layer i) (longer-back s.first s.count at i) false false
  next-in at Layer h = λ i. context (back s.cell i) (at_in at h i) None false false
  next-in at Box h = λ i. context (back s.cell i) (back s.layer i) None false false
  next-in at Poly h = λ i. context (back s.cell i) (back s.layer i) None false false
  next-in at Wire h = λ i. context (back s.cell i) (back s.layer i) None false false
  next-in at Text h = λ i. context (back s.cell i) (back s.layer i) None false false
  next-in at Sref h = λ i. context (back s.cell i) (back s.layer i) None false false
  next-in at Endlib h = λ i. context (back s.cell i) (back s.layer i) None false true

-- ---- the start

pub start-in : context_in (state_of start) ≡ start
unfolding context_in state_of start offset_in run_in
start-in = refl

pub first-in : place_in (cursor_of first_place) ≡ first_place
unfolding place_in cursor_of first_place
first-in = λ i. record { at = 4; context = start-in i }
