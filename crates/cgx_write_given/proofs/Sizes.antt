-- The size of the record that each call writes, as the code has it. Assumes nothing.
use Rattle.std.specs.Prelude.{None, Option, Some}
use mathlib.Core.Path.{◌≡◌, refl}
use mathlib.Core.List.{List, []}
use Prim.Native.Nat.{ℕ, ◌+◌, ◌*◌, ◌/◌}
use native.Mathlib.Omega.{arith}
use lib.IntN.{ℤ}
use lib.ListN.{length, length-append}
use Rattle.cgx_spec.specs.Numbers.{short_bytes, long_bytes}
use Rattle.cgx_spec.specs.Strings.{padded}
use Rattle.cgx_spec.specs.Records.{size}
use Rattle.buffers.specs.Put.{longs_bytes}
use Rattle.buffers.proofs.Puts.{length-longs}
use Rattle.buffers.proofs.Padding.{length-padded}
use Rattle.cgx_format_kinds.specs.declared.Point.{Point}
use Rattle.cgx_format_kinds.specs.declared.LayerNo.{LayerNo}
use Rattle.cgx_format_kinds.specs.declared.DataType.{DataType}
use Rattle.cgx_write_given.specs.Given.{stored, written, given_layer, given_box, given_poly, given_wire, given_text, given_endlib}

-- ---- LAYER without a name

module _ (n : LayerNo) (d : DataType) where
  pub layer-size : 8 ≡ size (written (given_layer n d None))
  unfolding written given_layer stored short_bytes
  layer-size = refl

-- ---- BOX

module _ (zs : List ℤ) where
  pub box-size : 4 + 4 * length zs ≡ size (written (given_box zs))
  unfolding written given_box stored
  box-size = let e = length-longs zs in let f = length-append (longs_bytes zs) [] in omega arith

-- ---- POLY

module _ (zs : List ℤ) where
  pub poly-size : 4 + 4 * length zs ≡ size (written (given_poly zs))
  unfolding written given_poly stored
  poly-size = let e = length-longs zs in let f = length-append (longs_bytes zs) [] in omega arith

-- ---- LAYER with a name

module _ (n : LayerNo) (d : DataType) (t : List ℕ) where
  pub named-size : 10 + length t / 2 * 2 ≡ size (written (given_layer n d (Some t)))
  unfolding written given_layer stored short_bytes
  named-size = let e = length-padded t in let f = length-append (padded t) [] in omega arith

-- ---- WIRE

module _ (s : Option ℕ) (w : ℤ) (zs : List ℤ) where
  pub wire-size : 8 + 4 * length zs ≡ size (written (given_wire s w zs))
  unfolding written given_wire stored longs_bytes long_bytes
  wire-size = let e = length-longs zs in let f = length-append (longs_bytes zs) [] in omega arith

-- ---- TEXT

module _ (fl : ℕ) (p : Point) (w : ℤ) (t : List ℕ) where
  pub label-size : 18 + length t / 2 * 2 ≡ size (written (given_text fl p w t))
  unfolding written given_text stored longs_bytes long_bytes
  label-size = let e = length-padded t in let f = length-append (padded t) [] in omega arith

-- ---- ENDLIB

pub endlib-size : 4 ≡ size (written given_endlib)
unfolding written given_endlib
endlib-size = refl
