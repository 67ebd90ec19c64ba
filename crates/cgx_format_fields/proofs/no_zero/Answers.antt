-- A short text, and the pieces of a long one.
use mathlib.Core.Path.{refl, sym, ap, ◌∙◌}
use mathlib.Core.Bool.{Bool, true, not, ◌&&◌}
use Prim.Native.Nat.{◌-◌, ◌/◌}
use native.Mathlib.Omega.{arith}
use lib.ListN.{length, take, drop}
use Rattle.std.specs.Simd.{first_chunks}
use Rattle.cgx_format_fields.proofs.Strings.{none-found}
use Rattle.cgx_format_fields.proofs.Pieces.{pieces, no-zero-pieces}
use Rattle.cgx_format_fields.proofs.no_zero.Goals as goal

pub returns-then-n-lt512 : goal.returns-then-n-lt512
returns-then-n-lt512 c = ap not c.contains.ensures.value ∙ none-found c.args.b.now

pub returns-then-none_in_pieces : goal.returns-then-none_in_pieces
returns-then-none_in_pieces c = let b = c.args.b.now in
    let last = c.none_in_pieces-then-none_in_pieces in
    ap (λ (v : Bool). v && last.result) (sym c.if-none_in_pieces.true)
    ∙ no-zero-pieces b _ _ (omega arith) refl refl (c.none_in_pieces.ensures ∙ ap (pieces true) c.as_chunks.ensures.front) (last.ensures ∙ ap (pieces true) c.as_chunks-then-none_in_pieces.ensures.front)

pub returns-else-none_in_pieces : goal.returns-else-none_in_pieces
returns-else-none_in_pieces c = let b = c.args.b.now in
    let y = take (length b - (length b - 512)) (drop (length b - 512) b) in
    let s = pieces true (first_chunks 512 (length y / 512) y) in
    c.if-none_in_pieces.false ∙ ap (λ (v : Bool). v && s) (sym c.if-none_in_pieces.false)
    ∙ no-zero-pieces b _ y (omega arith) refl refl (c.none_in_pieces.ensures ∙ ap (pieces true) c.as_chunks.ensures.front) refl
