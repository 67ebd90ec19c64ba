-- The records that the makers append: their stores and their room. Assumes nothing.
use mathlib.Core.Path.{◌≡◌, sym, ap, ap₂, ◌∙◌}
use mathlib.Core.Bool.{true}
use mathlib.Core.List.{List, [], ◌∷◌, ◌++◌}
use Prim.Native.Nat.{ℕ, ◌+◌, ◌*◌, ◌/◌, ◌≤◌}
use native.Mathlib.Omega.{arith}
use lib.IntN.{ℤ, pos}
use lib.ListN.{length}
use mir.Syntax.{w32}
use mir.Val.{to_z, of_z, SFits}
use mir.ValLaws.{to_z-of_z}
use Rattle.cgx_spec.specs.Records.{size, bytes_of}
use Rattle.buffers.specs.Put.{put}
use Rattle.cgx_format_kinds.specs.declared.Point.{Point}
use Rattle.cgx_write_given.specs.declared.Writer.{Writer}
use Rattle.cgx_write_given.specs.Given.{Given, written}
use Rattle.cgx_write_given.specs.Writing.{offset_of, writer_after, is_taken}
use Rattle.cgx_write_given.proofs.Sizes.{layer-size, wire-size, label-size}
use Rattle.cgx_write_given.proofs.Unforged.{after_is}
use Rattle.cgx_write_plans.proofs.Order.{call_fits}
use Rattle.cgx_write_makers.specs.Makers.{corners, card_layer, card_style, card_wire, outline, caption}
use Rattle.cgx_write_makers.specs.Planned.{all_planned, all_stored}
use Rattle.cgx_write_makers.proofs.Turns.{plan-good}

offset-after : (w : Writer) (g : Given) (n : ℕ) → n ≡ size (written g) → offset_of (writer_after w g) ≡ offset_of w + n
offset-after w g n e = ap offset_of (after_is w g) ∙ ap (λ (k : ℕ). offset_of w + k) (sym e)

layer-8 : 8 ≡ size (written card_layer)
layer-8 = layer-size (record { 0 = pos 1 }) (record { 0 = pos 0 })

module _ (zs : List ℤ) (w : Writer) where
  abbrev second : Writer
  second = writer_after w card_layer

  abbrev third : Writer
  third = writer_after second (card_wire zs)

  wire-at : offset_of second ≡ offset_of w + 8
  wire-at = offset-after w card_layer 8 layer-8

  pub caption-at : offset_of third ≡ offset_of w + (16 + 4 * length zs)
  caption-at = let a = wire-at in let b = offset-after second (card_wire zs) (8 + 4 * length zs) (wire-size card_style (pos 2) zs) in omega arith

  -- the stores, as the code has them
  pub outline-stored : (buf : List ℕ) → put (put buf (offset_of w) (bytes_of (written card_layer))) (offset_of w + 8) (bytes_of (written (card_wire zs))) ≡ all_stored buf w (outline zs)
  unfolding all_stored
  outline-stored buf = ap (λ (k : ℕ). put (put buf (offset_of w) (bytes_of (written card_layer))) k (bytes_of (written (card_wire zs)))) (sym wire-at)

  pub frame-stored : (buf : List ℕ) (p : Point) (t : List ℕ) (to : ℕ) → to ≡ offset_of w + (16 + 4 * length zs)
      → put (put (put buf (offset_of w) (bytes_of (written card_layer))) (offset_of w + 8) (bytes_of (written (card_wire zs)))) to (bytes_of (written (caption p t))) ≡ all_stored buf w (outline zs ++ (caption p t ∷ []))
  unfolding all_stored
  frame-stored buf p t to e =
      ap₂ (λ (k j : ℕ). put (put (put buf (offset_of w) (bytes_of (written card_layer))) k (bytes_of (written (card_wire zs)))) j (bytes_of (written (caption p t)))) (sym wire-at) (e ∙ sym caption-at)

  -- a plan that is taken leaves room
  pub outline-fits : (room : ℕ) (gs : List Given) → is_taken (all_planned room w (card_layer ∷ card_wire zs ∷ gs)) ≡ true → (offset_of w + (16 + 4 * length zs) ≤ room) × (8 + 4 * length zs ≤ 65534)
  outline-fits room gs z =
      let g = plan-good room second (card_wire zs) gs (plan-good room w card_layer (card_wire zs ∷ gs) z).1 in
      let h = call_fits room second (card_wire zs) _ (8 + 4 * length zs) g.0 (wire-size card_style (pos 2) zs) in
      (omega (arith, h.room, wire-at), h.small)

  pub frame-fits : (room : ℕ) (p : Point) (t : List ℕ) → is_taken (all_planned room w (outline zs ++ (caption p t ∷ []))) ≡ true → (offset_of w + (16 + 4 * length zs) + (18 + length t / 2 * 2) ≤ room) × (18 + length t / 2 * 2 ≤ 65534)
  frame-fits room p t z =
      let k = (plan-good room second (card_wire zs) (caption p t ∷ []) (plan-good room w card_layer (card_wire zs ∷ caption p t ∷ []) z).1).1 in
      let g = plan-good room third (caption p t) [] k in
      let h = call_fits room third (caption p t) _ (18 + length t / 2 * 2) g.0 (label-size 0 p (pos 2) t) in
      (omega (arith, h.room, caption-at), h.small)

-- the sides as a call is given them
abbrev held : ℤ → ℤ
held z = to_z w32 (of_z w32 z)

module _ (l b r t : ℤ) (hl : SFits w32 l) (hb : SFits w32 b) (hr : SFits w32 r) (ht : SFits w32 t) where
  pub corners-held : corners (held l) (held b) (held r) (held t) ≡ corners l b r t
  corners-held = rw (to_z-of_z w32 l hl, to_z-of_z w32 b hb, to_z-of_z w32 r hr, to_z-of_z w32 t ht)

  pub point-held : ◌≡◌ {A = Point} (record { x = held l; y = held b }) (record { x = l; y = b })
  point-held = rw (to_z-of_z w32 l hl, to_z-of_z w32 b hb)
