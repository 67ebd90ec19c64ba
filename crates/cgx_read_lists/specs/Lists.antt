-- What a list of boxes or points, and the span of a text, give of a file f, for made-up lists and spans too. Definitions only.
use Rattle.std.specs.Prelude.{Bool, ◌&&◌, cond, List, [], ℕ, ◌+◌, ◌*◌, ltb, leb, ℤ, length, take, drop, None, Option, Some}
use Rattle.cgx_spec.specs.Numbers.{long_of}
use Rattle.cgx_format_kinds.specs.declared.ItemList.{ItemList}
use Rattle.cgx_format_kinds.specs.declared.TextSpan.{TextSpan}
use Rattle.cgx_format_kinds.specs.declared.Point.{Point}
use Rattle.cgx_format_kinds.specs.declared.Sides.{Sides}

abbrev pub long_at : List ℕ → ℕ → ℤ
long_at f at = long_of (take 4 (drop at f))

-- ---- lists

-- Where the i-th thing of u bytes begins.
abbrev pub place_of : ℕ → ItemList → ℕ → ℕ
place_of u r i = r.first + u * i

-- The list has an i-th thing, and it lies inside n bytes.
unfoldable pub item_inside : ℕ → ℕ → ItemList → ℕ → Bool
item_inside n u r i = ltb i r.count && leb (place_of u r i + u) n

-- Where that begins, if there is one.
unfoldable pub item_at : ℕ → ℕ → ItemList → ℕ → Option ℕ
item_at n u r i = cond (item_inside n u r i) (Some (place_of u r i)) None

unfoldable pub box_of : List ℕ → ItemList → ℕ → Option Sides
box_of f r i =
    cond (item_inside (length f) 16 r i)
    (Some (record {
      left = long_at f (place_of 16 r i);
      bottom = long_at f (place_of 16 r i + 4);
      right = long_at f (place_of 16 r i + 8);
      top = long_at f (place_of 16 r i + 12);
    }))
    None

unfoldable pub point_of : List ℕ → ItemList → ℕ → Option Point
point_of f r i =
    cond (item_inside (length f) 8 r i) (Some (record { x = long_at f (place_of 8 r i); y = long_at f (place_of 8 r i + 4) })) None

-- ---- texts

-- The span lies inside n bytes.
unfoldable pub within : ℕ → TextSpan → Bool
within n s = leb (s.at + s.len) n

-- The bytes of a span that lies inside the file, else none.
unfoldable pub span_bytes : List ℕ → TextSpan → List ℕ
span_bytes f s = cond (within (length f) s) (take s.len (drop s.at f)) []

-- Where they are, of a file of n bytes with this pointer: a pointer is a block and an offset in it.
unfoldable pub span_ptr : ℕ × ℕ → ℕ → TextSpan → ℕ × ℕ
span_ptr p n s = cond (within n s) (p.0, p.1 + s.at) p
