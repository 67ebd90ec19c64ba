-- `numbers::same_pair` is right: both halves of the eight bytes are the same. Assumes nothing.
use mathlib.Core.Path.{ap, ◌∙◌}
use native.Mathlib.Omega.{arith}
use mir.Syntax.{w32}
use Rattle.std.proofs.Common.{rules}
use Rattle.std.specs.Int.{from_le_bytes}
use Rattle.cgx_spec.specs.Numbers.{Bytes}
use Rattle.numbers.proofs.Same.{first-low, second-low, pair_same}
use Rattle.numbers.proofs.same_pair.Goals as goal

pub returns : goal.returns
returns c = let f = c.args.s.now in
    let at = c.args.at in
    let other = c.args.other in
    let h : Bytes f = λ i. search rules in
    pair_same f h at other (omega arith) (omega arith)
    (c.from_le_bytes-x.ensures ∙ ap (from_le_bytes w32) (first-low f h at (omega arith)))
    (c.from_le_bytes-other_x.ensures ∙ ap (from_le_bytes w32) (first-low f h other (omega arith)))
    (c.from_le_bytes-y.ensures ∙ ap (from_le_bytes w32) (second-low f h at (omega arith)))
    (c.from_le_bytes-other_y.ensures ∙ ap (from_le_bytes w32) (second-low f h other (omega arith)))
