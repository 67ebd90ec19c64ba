-- Req 08: with 0 stated, the makers append what they did. Assumes nothing.
use mathlib.Core.Path.{◌≡◌, refl, sym, ap, ◌∙◌}
use mathlib.Core.List.{List, [], ◌∷◌, ◌++◌, map, append-nil}
use Prim.Native.Nat.{ℕ, ◌+◌, ◌*◌, ◌/◌, ◌%◌}
use lib.IntN.{pos}
use lib.ListN.{length}
use Rattle.cgx_spec.specs.Numbers.{untwos, short_bytes, long_bytes}
use Rattle.cgx_spec.specs.Strings.{padded}
use Rattle.cgx_spec.specs.Fields.{join}
use Rattle.cgx_spec.specs.Kinds.{text_flags}
use Rattle.cgx_spec.specs.Records.{bytes_of}
use Rattle.buffers.specs.Put.{longs_bytes}
use Rattle.cgx_format_kinds.specs.declared.Point.{Point}
use Rattle.cgx_write_given.specs.Given.{stored, written, given_layer, given_wire, given_text}
use Rattle.cgx_write_given.proofs.Sizes.{label-size}
use Rattle.cgx_write_makers.specs.Makers.{caption, card_calls}
use Rattle.cgx_write_makers.specs.Demand.{MakersUnchanged}

module _ (p : Point) (label : List ℕ) where
  abbrev text : ℕ → List ℕ → List ℕ
  text size end = size / 256 ∷ size % 256 ∷ 8 ∷ 0 ∷ (longs_bytes (p.x ∷ p.y ∷ pos 2 ∷ []) ++ end)

  caption-bytes : bytes_of (written (caption p label)) ≡ text (18 + length label / 2 * 2) (padded label)
  unfolding given_text written stored bytes_of longs_bytes long_bytes text_flags
  caption-bytes = ap (λ (n : ℕ). text n (padded label ++ [])) (sym (label-size 0 p (pos 2) label)) ∙ ap (text (18 + length label / 2 * 2)) (append-nil (padded label))

pub makers-unchanged : MakersUnchanged
unfolding given_layer given_wire written stored bytes_of longs_bytes long_bytes short_bytes untwos
makers-unchanged =
    record {
      card = λ l b r t. refl;
      frame = λ l b r t label. refl;
      card-in = λ buf w l b r t. refl;
      frame-in = λ buf w l b r t label. refl;
      card-bytes = λ l b r t. refl;
      frame-bytes = λ l b r t label.
          let c = caption (record { x = l; y = b }) label in
          ap (λ (x : List ℕ). join bytes_of (map written (card_calls l b r t)) ++ x) (append-nil (bytes_of (written c)) ∙ caption-bytes (record { x = l; y = b }) label);
    }
