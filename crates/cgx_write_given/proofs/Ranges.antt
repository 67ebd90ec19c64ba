-- What the prover knows of a signed number, a struct or an enum that is passed by value, as `Typed` says it. Assumes nothing.

use mathlib.Core.Path.{subst, sym}
use mathlib.Core.List.{List, [], ◌∷◌}
use Prim.Native.Nat.{ℕ, ◌+◌, ◌<◌, ◌^◌}
use native.Mathlib.Numerals.{add-one}
use lib.IntN.{ℤ, pos, negsuc}
use lib.ListN.{length, drop, get_or}
use lib.Seq.{drop-cons}
use lib.Signed.{mag}
use native.Mathlib.Omega.{arith}
use Rattle.std.specs.Prelude.{None, Option, Some}
use mir.Syntax.{w8}
use mir.Val.{Val}
use denote.Plain.{UInt}
use denote.Laws.{Is}
use denote.Enum.Declared as Enum
use Rattle.std.specs.contracts.option.Option as OfOption
use denote.Struct.Declared as Struct
use denote.Struct.Laws as StructLaws
use Rattle.cgx_spec.specs.Numbers.{InRange}
use Rattle.cgx_format_kinds.specs.declared.Date.{Date}
use Rattle.cgx_format_kinds.specs.declared.LayerNo.{LayerNo}
use Rattle.cgx_format_kinds.specs.declared.DataType.{DataType}
use Rattle.cgx_format_kinds.specs.declared.Point.{Point}
use Rattle.cgx_format_kinds.specs.contracts.Date as OfDate
use Rattle.cgx_format_kinds.proofs.Date.TheLaws as DateLaws
use Rattle.cgx_format_kinds.specs.contracts.LayerNo as OfLayerNo
use Rattle.cgx_format_kinds.proofs.LayerNo.TheLaws as LayerNoLaws
use Rattle.cgx_format_kinds.specs.contracts.DataType as OfDataType
use Rattle.cgx_format_kinds.proofs.DataType.TheLaws as DataTypeLaws
use Rattle.cgx_format_kinds.specs.contracts.Point as OfPoint
use Rattle.cgx_format_kinds.proofs.Point.TheLaws as PointLaws
use Rattle.cgx_format_kinds.specs.declared.Grid.{Grid}
use Rattle.cgx_format_kinds.specs.contracts.Grid as OfGrid
use Rattle.cgx_format_kinds.proofs.Grid.TheLaws as GridLaws
use Rattle.cgx_write_given.specs.Given.{style_of}
use Rattle.cgx_write_given.specs.Typed.{Short, Long, Longs, IsDate, IsPoint, IsGrid}

-- ---- numbers

in-range : (half : ℕ) (z : ℤ) → mag z < half → InRange half z
in-range half (pos n) h = h
in-range half (negsuc n) h = h

pub short-in : (z : ℤ) → mag z < 2 ^ 15 → Short z
short-in z h = in-range (2 ^ 15) z h

pub long-in : (z : ℤ) → mag z < 2 ^ 31 → Long z
long-in z h = in-range (2 ^ 31) z h

-- ---- lists: one element more, and all

pub longs-on : (zs : List ℤ) (i : ℕ) → i < length zs → mag (get_or zs i (pos 0)) < 2 ^ 31 → (Longs (drop i zs) → Longs zs) → Longs (drop (i + 1) zs) → Longs zs
longs-on zs i h l rest hs =
    rest (subst Longs (sym (drop-cons zs i (pos 0) h)) (long-in (get_or zs i (pos 0)) l, subst (λ (k : ℕ). Longs (drop k zs)) (add-one i) hs))

-- ---- structs

pub number_in : (n : LayerNo) → Is (Struct.row OfLayerNo.the_type) n (StructLaws.val OfLayerNo.the_type LayerNoLaws.the_laws n ∷ []) → Short n.0
number_in n g = short-in n.0 g.1.1.0.1

pub type-in : (d : DataType) → Is (Struct.row OfDataType.the_type) d (StructLaws.val OfDataType.the_type DataTypeLaws.the_laws d ∷ []) → Short d.0
type-in d g = short-in d.0 g.1.1.0.1

pub date-in : (d : Date) → Is (Struct.row OfDate.the_type) d (StructLaws.val OfDate.the_type DateLaws.the_laws d ∷ []) → IsDate d
date-in d g =
    let h = g.1.1 in
    record {
      year = short-in d.year h.0.1;
      month = h.1.0.1;
      day = h.1.1.0.1;
      hour = h.1.1.1.0.1;
      minute = h.1.1.1.1.0.1;
      second = h.1.1.1.1.1.0.1;
    }

pub point-in : (p : Point) → Is (Struct.row OfPoint.the_type) p (StructLaws.val OfPoint.the_type PointLaws.the_laws p ∷ []) → IsPoint p
point-in p g = record { x = long-in p.x g.1.1.0.1; y = long-in p.y g.1.1.1.0.1 }

pub grid-in : (g : Grid) → Is (Struct.row OfGrid.the_type) g (StructLaws.val OfGrid.the_type GridLaws.the_laws g ∷ []) → IsGrid g
grid-in g t =
    let h = t.1.1 in
    let a = h.1.1.0.1.1 in
    let u = h.1.1.1.0.1.1 in
    record {
      cols = long-in g.cols h.0.1;
      rows = long-in g.rows h.1.0.1;
      across = record { x = long-in g.across.x a.0.1; y = long-in g.across.y a.1.0.1 };
      up = record { x = long-in g.up.x u.0.1; y = long-in g.up.y u.1.0.1 };
    }

-- ---- an end style

pub style-in : (s : Option ℕ) {vs : List Val} → Is (Enum.row (OfOption.the_type (UInt w8))) s vs → style_of s < 256
style-in None g = omega arith
style-in (Some n) g = g.1.1.1.1.0.1
