-- Where a cell begins in an accepted file, and the hull of its points. Definitions only.
use Rattle.std.specs.Prelude.{List, ◌≡◌, ℕ, None, Option, Some}
use Rattle.cgx_spec.specs.Records.{Rec}
use Rattle.cgx_spec.specs.Files.{known, sequence}
use Rattle.cgx_format_kinds.specs.declared.Point.{Point}
use Rattle.cgx_format_kinds.specs.declared.Sides.{Sides}
use Rattle.cgx_read_sequence.specs.Sequence.{Rest}
use Rattle.cgx_ask_extent.specs.Extent.{points, widest, hull, up_to_struct, cell_of}

-- The least rectangle around one, or nothing, and points.
unfoldable pub hull_from : Option Sides → List Point → Option Sides
hull_from None ps = hull ps
hull_from (Some s) ps = Some (widest s ps)

-- The records of the cell begin there.
pub record Begins (f : List ℕ) (k at : ℕ) : Type 0 where
  pub records : List Rec
  pub rest : Rest f at records
  pub cell : cell_of k (sequence f) ≡ Some (up_to_struct (known records))

unfoldable pub CellIn : List ℕ → ℕ → Option ℕ → Type 0
CellIn f k None = cell_of k (sequence f) ≡ None
CellIn f k (Some at) = Begins f k at

abbrev pub HullIn : List ℕ → ℕ → Option Sides → Type 0
HullIn f from r = (rs : List Rec) → Rest f from rs → r ≡ hull (points (up_to_struct (known rs)))
