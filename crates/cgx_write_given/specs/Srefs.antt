-- An SREF as the code computes it: what is stored of the fields that its flags tell of, and its size. Definitions only.
use Rattle.std.specs.Prelude.{Bool, List, ◌++◌, ℕ, ◌+◌, ◌*◌, ◌/◌}
use Rattle.cgx_format_sref.specs.Layouts.{sref_layout}
use Rattle.cgx_format_kinds.specs.declared.Grid.{Grid}
use Rattle.cgx_write_given.specs.Given.{eight, long, point, if_set, stored}

-- What is stored of fields that are there only where their flag is set: an angle or a magnif; columns, rows and the two points.
abbrev pub real_if : Bool → List ℕ → List ℕ
real_if set real = stored (if_set set (eight real))

abbrev pub grid_if : Bool → Grid → List ℕ
grid_if set grid =
    stored (if_set set (long grid.cols))
    ++ (stored (if_set set (long grid.rows)) ++ (stored (if_set set (point grid.across)) ++ stored (if_set set (point grid.up))))

-- Of a name of n bytes: where its layout has the name, and the name with its zero bytes.
unfoldable pub sref_size : ℕ → ℕ → ℕ
sref_size fl n = (sref_layout fl).name + (2 + n / 2 * 2)
