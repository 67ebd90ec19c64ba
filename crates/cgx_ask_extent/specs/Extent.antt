-- 01, "The extent of cell k (from 0) of a file is the least rectangle around its boxes, polygon points and wire points, width ignored, or nothing."
-- Definitions only.
use Rattle.std.specs.Prelude.{Bool, true, false, cond, List, [], ◌∷◌, ◌++◌, ℕ, zero, suc, ℤ, ◌≤ℤ◌, drop, None, Option, Some, Ok, Err, Result}
use Rattle.std.specs.Int.Signed.{le_z}
use Rattle.cgx_spec.specs.declared.Kind.{Kind}
use Rattle.cgx_spec.specs.declared.Kind.TheVariants.{Library, Struct, Cprpty, Property, Layer, Box, Poly, Wire, Text, Sref, Endlib}
use Rattle.cgx_spec.specs.declared.Refusal.{Refusal}
use Rattle.cgx_spec.specs.Verdicts.{Verdict, of_file}
use Rattle.cgx_spec.specs.Verdicts.{accepted, refused}
use Rattle.cgx_spec.specs.Numbers.{longs_of}
use Rattle.cgx_spec.specs.Files.{Known, sequence, verdict_of}
use Rattle.cgx_format_kinds.specs.declared.Point.{Point}
use Rattle.cgx_ask_extent.specs.declared.ExtentRole.{ExtentRole}
use Rattle.cgx_ask_extent.specs.declared.ExtentRole.TheVariants.{Opens, Points, Neither}
use Rattle.cgx_format_kinds.specs.declared.Sides.{Sides}

-- ---- the points of a record

-- What a kind is to an extent. A box is its two corners; a wire's points come after its width.
abbrev pub extent_role : Kind → ExtentRole
extent_role Library = Neither
extent_role Struct = Opens
extent_role Cprpty = Neither
extent_role Property = Neither
extent_role Layer = Neither
extent_role Box = Points 0
extent_role Poly = Points 0
extent_role Wire = Points 4
extent_role Text = Neither
extent_role Sref = Neither
extent_role Endlib = Neither

-- The longs x, y, x, y .. as points.
unfoldable pub pairs : List ℤ → List Point
pairs [] = []
pairs (x ∷ []) = []
pairs (x ∷ y ∷ zs) = record { x = x; y = y } ∷ pairs zs

unfoldable pub points_by : ExtentRole → List ℕ → List Point
points_by Opens b = []
points_by (Points from) b = pairs (longs_of (drop from b))
points_by Neither b = []

unfoldable pub points : List Known → List Point
points [] = []
points (n ∷ ns) = points_by (extent_role n.kind) n.rec.body ++ points ns

-- ---- the least rectangle

abbrev pub min_z : ℤ → ℤ → ℤ
min_z a b = cond (le_z a b) a b

abbrev pub max_z : ℤ → ℤ → ℤ
max_z a b = cond (le_z a b) b a

-- The rectangle that is one point, and the least around a rectangle and a point.
unfoldable pub only : Point → Sides
only p = record { left = p.x; bottom = p.y; right = p.x; top = p.y }

unfoldable pub wider : Sides → Point → Sides
wider s p = record { left = min_z s.left p.x; bottom = min_z s.bottom p.y; right = max_z s.right p.x; top = max_z s.top p.y }

unfoldable pub widest : Sides → List Point → Sides
widest s [] = s
widest s (p ∷ ps) = widest (wider s p) ps

unfoldable pub hull : List Point → Option Sides
hull [] = None
hull (p ∷ ps) = Some (widest (only p) ps)

-- ---- that it is the least

-- The point lies in the rectangle.
pub record Holds (s : Sides) (p : Point) : Type 0 where
  pub left : s.left ≤ℤ p.x
  pub bottom : s.bottom ≤ℤ p.y
  pub right : p.x ≤ℤ s.right
  pub top : p.y ≤ℤ s.top

abbrev pub HoldsAll : Sides → List Point → Type 0
HoldsAll s [] = Unit {0}
HoldsAll s (p ∷ ps) = Holds s p × HoldsAll s ps

-- The first rectangle lies in the second.
pub record Within (s t : Sides) : Type 0 where
  pub left : t.left ≤ℤ s.left
  pub bottom : t.bottom ≤ℤ s.bottom
  pub right : s.right ≤ℤ t.right
  pub top : s.top ≤ℤ t.top

-- The rectangle holds all the points, and lies in every one that does.
pub record Least (ps : List Point) (s : Sides) : Type 0 where
  pub holds : HoldsAll s ps
  pub least : (t : Sides) → HoldsAll t ps → Within s t

-- What is proved of `hull`: nothing for no points, else the least rectangle.
abbrev pub Right : List Point → Option Sides → Type 0
Right [] None = Unit {0}
Right [] (Some s) = ⊥
Right (p ∷ ps) None = ⊥
Right (p ∷ ps) (Some s) = Least (p ∷ ps) s

-- ---- the cells of a sequence

abbrev pub opens : ExtentRole → Bool
opens Opens = true
opens (Points from) = false
opens Neither = false

-- The records up to the next STRUCT.
unfoldable pub up_to_struct : List Known → List Known
up_to_struct [] = []
up_to_struct (n ∷ ns) = cond (opens (extent_role n.kind)) [] (n ∷ up_to_struct ns)

-- The records of cell k, those after its STRUCT.
unfoldable pub cell_of : ℕ → List Known → Option (List Known)
cell_of zero [] = None
cell_of (suc k) [] = None
cell_of zero (n ∷ ns) = cond (opens (extent_role n.kind)) (Some (up_to_struct ns)) (cell_of zero ns)
cell_of (suc k) (n ∷ ns) = cond (opens (extent_role n.kind)) (cell_of k ns) (cell_of (suc k) ns)

unfoldable pub around : Option (List Known) → Option (Option Sides)
around None = None
around (Some ns) = Some (hull (points ns))

-- ---- the answer

-- The least rectangle around the cell's points, if it has any; or why there is none.
abbrev pub CellExtent : Type 0
CellExtent = Result (Option Sides) Refusal

abbrev pub found : Option Sides → CellExtent
found r = Ok r

abbrev pub not_found : ℕ → Option ℕ → CellExtent
not_found n at = Err (record { number = n; at = at })

-- "It answers the file's refusal, or 16 where there is no such cell", which names no place.
unfoldable pub answer_on : Verdict → Option (Option Sides) → CellExtent
answer_on (Ok _) None = not_found 16 None
answer_on (Ok _) (Some s) = found s
answer_on (Err r) o = Err (of_file r)

unfoldable pub extent_of : List ℕ → ℕ → CellExtent
extent_of f k = answer_on (verdict_of f) (around (cell_of k (sequence f)))
