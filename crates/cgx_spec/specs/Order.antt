-- 01, "Sequence and context": what a record needs of the records before it (rule 6), and what follows from it for those after it. Definitions only.
use Rattle.std.specs.Prelude.{Bool, true, false, not, List, [], ◌∷◌, ℕ, ◌+◌, None, Option, Some}
use Rattle.cgx_spec.specs.declared.Kind.{Kind}
use Rattle.cgx_spec.specs.declared.Kind.TheVariants.{Library, Struct, Cprpty, Property, Layer, Box, Poly, Wire, Text, Sref, Endlib}
use Rattle.cgx_spec.specs.declared.Run.{Run}
use Rattle.cgx_spec.specs.declared.Context.{Context}
use Rattle.cgx_spec.specs.declared.Need.{Need}
use Rattle.cgx_spec.specs.declared.Need.TheVariants.{LibraryBefore, NoLibraryBefore, OpenCell, LayerInForce, NoneAwaiting, OnlyCprpty}
use Rattle.cgx_spec.specs.Fields.{every}

-- Nothing has been read.
unfoldable pub start : Context
start = record { library = false; cell = None; layer = None; fresh = false; run = None; ended = false }

-- ---- needs

abbrev pub present : Option ℕ → Bool
present None = false
present (Some p) = true

abbrev pub awaiting : Option Run → Bool
awaiting None = false
awaiting (Some r) = true

abbrev pub met : Context → Need → Bool
-- "LIBRARY is first": "not even an unknown record may precede it"
met c LibraryBefore = c.library
-- it "stands once"
met c NoLibraryBefore = not c.library
-- CPRPTY and PROPERTY are in a cell; "LAYER needs a cell", "SREF only a cell"
met c OpenCell = present c.cell
-- "BOX, POLY, WIRE and TEXT need a layer"
met c LayerInForce = present c.layer
-- PROPERTY "must be followed by PROPERTY or by BOX, POLY, WIRE, TEXT or SREF"
met c NoneAwaiting = not (awaiting c.run)
-- "CPRPTY stands after STRUCT with only CPRPTY between"
met c OnlyCprpty = c.fresh

-- What a record of this kind, or of an unknown type, needs, in the order of `Need`.
abbrev pub needs_of : Option Kind → List Need
needs_of None = LibraryBefore ∷ []
needs_of (Some Library) = NoLibraryBefore ∷ NoneAwaiting ∷ []
needs_of (Some Struct) = LibraryBefore ∷ NoneAwaiting ∷ []
needs_of (Some Cprpty) = LibraryBefore ∷ OpenCell ∷ NoneAwaiting ∷ OnlyCprpty ∷ []
needs_of (Some Property) = LibraryBefore ∷ OpenCell ∷ []
needs_of (Some Layer) = LibraryBefore ∷ OpenCell ∷ NoneAwaiting ∷ []
needs_of (Some Box) = LibraryBefore ∷ OpenCell ∷ LayerInForce ∷ []
needs_of (Some Poly) = LibraryBefore ∷ OpenCell ∷ LayerInForce ∷ []
needs_of (Some Wire) = LibraryBefore ∷ OpenCell ∷ LayerInForce ∷ []
needs_of (Some Text) = LibraryBefore ∷ OpenCell ∷ LayerInForce ∷ []
needs_of (Some Sref) = LibraryBefore ∷ OpenCell ∷ []
needs_of (Some Endlib) = LibraryBefore ∷ NoneAwaiting ∷ []

-- Rule 6: a record is allowed where each of its needs is met.
unfoldable pub allowed : Context → Option Kind → Bool
allowed c o = every (met c) (needs_of o)

-- ---- what follows

-- The run with one more PROPERTY, at this offset.
abbrev pub longer : Option Run → ℕ → Option Run
longer None at = Some (record { first = at; count = 1 })
longer (Some r) at = Some (record { first = r.first; count = r.count + 1 })

-- An object "takes the whole run; the next object starts with none".
abbrev pub after_object : Context → Context
after_object c = record { library = c.library; cell = c.cell; layer = c.layer; fresh = false; run = None; ended = false }

-- The context after a record at this offset. Of unknown types "these rules read as if they were absent".
abbrev pub next : Context → ℕ → Option Kind → Context
next c at None = c
next c at (Some Library) = record { library = true; cell = None; layer = None; fresh = false; run = None; ended = false }
-- "STRUCT opens a cell and clears the layer."
next c at (Some Struct) = record { library = c.library; cell = Some at; layer = None; fresh = true; run = None; ended = false }
next c at (Some Cprpty) = record { library = c.library; cell = c.cell; layer = c.layer; fresh = c.fresh; run = None; ended = false }
next c at (Some Property) =
    record { library = c.library; cell = c.cell; layer = c.layer; fresh = false; run = longer c.run at; ended = false }
next c at (Some Layer) = record { library = c.library; cell = c.cell; layer = Some at; fresh = false; run = None; ended = false }
next c at (Some Box) = after_object c
next c at (Some Poly) = after_object c
next c at (Some Wire) = after_object c
next c at (Some Text) = after_object c
next c at (Some Sref) = after_object c
-- "ENDLIB is last" and "has the cell and layer then open".
next c at (Some Endlib) = record { library = c.library; cell = c.cell; layer = c.layer; fresh = false; run = None; ended = true }

-- The kinds that take a run: the objects.
abbrev pub is_object : Kind → Bool
is_object Library = false
is_object Struct = false
is_object Cprpty = false
is_object Property = false
is_object Layer = false
is_object Box = true
is_object Poly = true
is_object Wire = true
is_object Text = true
is_object Sref = true
is_object Endlib = false

-- ---- what rule 6 looks at

-- A context without its offsets: whether there is a cell, a layer, a run.
pub record OrderFacts : Type 0 where
  pub library : Bool
  pub cell : Bool
  pub layer : Bool
  pub fresh : Bool
  pub waiting : Bool
  pub ended : Bool

abbrev pub facts_of : Context → OrderFacts
facts_of c =
    record { library = c.library; cell = present c.cell; layer = present c.layer; fresh = c.fresh; waiting = awaiting c.run; ended = c.ended }
