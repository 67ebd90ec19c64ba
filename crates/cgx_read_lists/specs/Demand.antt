-- What is proved of lists and texts: what is read by an index or a span is what the view says. Statements only.
use Rattle.std.specs.Prelude.{true, List, ◌≡◌, ℕ, ◌+◌, ◌*◌, ◌≤◌, ◌<◌, ℤ, pos, length, get_or, None, Some}
use Rattle.cgx_spec.specs.Fields.{Value, missing, exactly, numbers, text}
use Rattle.cgx_format_kinds.specs.declared.ItemList.{ItemList}
use Rattle.cgx_format_kinds.specs.declared.TextSpan.{TextSpan}
use Rattle.cgx_format_kinds.specs.Meant.{span_text, list_numbers}
use Rattle.cgx_read_lists.specs.Lists.{box_of, point_of, within, span_bytes}

-- The j-th number of a field's value.
abbrev pub nth : Value → ℕ → ℤ
nth missing j = pos 0
nth (exactly z) j = pos 0
nth (numbers zs) j = get_or zs j (pos 0)
nth (text t) j = pos 0

pub record ListsDemand : Type 0 where
  -- Of a list that lies inside the file, the i-th box is the numbers 4 i to 4 i + 3 that the view says,
  pub boxes : (f : List ℕ) (r : ItemList) (i : ℕ) → i < r.count → r.first + 16 * r.count ≤ length f
      → box_of f r i ≡ Some (record { left = nth (list_numbers 16 f r) (4 * i); bottom = nth (list_numbers 16 f r) (4 * i + 1); right = nth (list_numbers 16 f r) (4 * i + 2); top = nth (list_numbers 16 f r) (4 * i + 3) })
  -- the i-th point is the numbers 2 i and 2 i + 1,
  pub points : (f : List ℕ) (r : ItemList) (i : ℕ) → i < r.count → r.first + 8 * r.count ≤ length f
      → point_of f r i ≡ Some (record { x = nth (list_numbers 8 f r) (2 * i); y = nth (list_numbers 8 f r) (2 * i + 1) })
  -- beyond the count there is no box,
  pub no-box : (f : List ℕ) (r : ItemList) (i : ℕ) → r.count ≤ i → box_of f r i ≡ None
  -- and no point.
  pub no-point : (f : List ℕ) (r : ItemList) (i : ℕ) → r.count ≤ i → point_of f r i ≡ None
  -- The text of a view is the very bytes of its span, where that lies inside the file.
  pub texts : (f : List ℕ) (s : TextSpan) → within (length f) s ≡ true → span_text f s ≡ text (span_bytes f s)
