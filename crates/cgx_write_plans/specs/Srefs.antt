-- What the plan of an SREF looks at. Definitions only.
use Rattle.std.specs.Prelude.{Bool, true, ◌&&◌, cond, List, ℕ, leb, pos, Option, Some}
use Rattle.std.specs.Int.Signed.{le_z}
use Rattle.cgx_spec.specs.Reals.{positive_real}
use Rattle.cgx_spec.specs.Kinds.{magnif, array}
use Rattle.cgx_format_kinds.specs.declared.Grid.{Grid}
use Rattle.cgx_write_plans.specs.Plans.{text_fault}

-- Rule 10, where the field's flag is set.
abbrev pub scale_good : Bool → List ℕ → Bool
scale_good set scale = cond set (positive_real scale) true

abbrev pub grid_good : Bool → Grid → Bool
grid_good set grid = cond set (le_z (pos 1) grid.cols && le_z (pos 1) grid.rows) true

-- The first of the rules 7 to 12 that is broken, if any.
unfoldable pub sref_fault : ℕ → List ℕ → Grid → List ℕ → Option ℕ
sref_fault fl scale grid name = cond (leb fl 15) (cond (scale_good (magnif fl) scale) (cond (grid_good (array fl) grid) (text_fault name) (Some 10)) (Some 10)) (Some 7)
