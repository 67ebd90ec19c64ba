-- What is proved of the extent that is answered: where it is a rectangle, it is the least one around the cell's points. Statements only.
use Rattle.std.specs.Prelude.{List, [], ◌≡◌, ℕ, None, Option, Some, Ok, Err}
use Rattle.cgx_spec.specs.Verdicts.{refused}
use Rattle.cgx_spec.specs.Files.{Known, Accepted, sequence, verdict_of}
use Rattle.cgx_format_kinds.specs.declared.Point.{Point}
use Rattle.cgx_format_kinds.specs.declared.Sides.{Sides}
use Rattle.cgx_ask_extent.specs.Extent.{CellExtent, not_found, found, points, Least, Right, cell_of, extent_of}

-- There is such a cell, and the rectangle holds all its points and lies in every rectangle that does.
abbrev pub LeastOf : Option (List Known) → Sides → Type 0
LeastOf None s = ⊥
LeastOf (Some cell) s = Least (points cell) s

-- There is such a cell, and it has no points.
abbrev pub NoPoints : Option (List Known) → Type 0
NoPoints None = ⊥
NoPoints (Some cell) = points cell ≡ []

-- The answer is the right rectangle of these points, and no refusal.
abbrev pub Answers : List Point → CellExtent → Type 0
Answers ps (Err r) = ⊥
Answers ps (Ok s) = Right ps s

pub record ExtentDemand : Type 0 where
  -- "the least rectangle around its boxes, polygon points and wire points": for every file and k, where a rectangle is answered, it is that of cell k,
  pub least : (f : List ℕ) (k : ℕ) (s : Sides) → extent_of f k ≡ found (Some s) → LeastOf (cell_of k (sequence f)) s
  -- "or nothing": where nothing is answered, cell k has no points,
  pub nothing : (f : List ℕ) (k : ℕ) → extent_of f k ≡ found None → NoPoints (cell_of k (sequence f))
  -- and each cell of an accepted file has one of these answers.
  pub answered : (f : List ℕ) (k : ℕ) (cell : List Known) → Accepted f → cell_of k (sequence f) ≡ Some cell → Answers (points cell) (extent_of f k)
  -- "It answers the file's refusal,
  pub refusal : (f : List ℕ) (k n p : ℕ) → verdict_of f ≡ refused n p → extent_of f k ≡ not_found n (Some p)
  -- or 16 where there is no such cell."
  pub no_cell : (f : List ℕ) (k : ℕ) → Accepted f → cell_of k (sequence f) ≡ None → extent_of f k ≡ not_found 16 None
