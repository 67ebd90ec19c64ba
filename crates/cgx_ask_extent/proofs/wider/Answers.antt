-- Side by side.
use mathlib.Core.Path.{◌∙◌}
use mir.Syntax.{w32}
use Rattle.cgx_ask_extent.specs.Extent.{wider}
use Rattle.std.specs.Int.{int_min, int_max}
use Rattle.cgx_ask_extent.proofs.Hulls.{least-is, most-is, side-is, sides-are}
use Rattle.cgx_ask_extent.proofs.wider.Goals as goal

pub returns : goal.returns
unfolding wider
returns c = let a = c.args in
    let s = c.struct_told-1.given in
    let p = c.struct_told-2-1.given in
    sides-are
    (side-is w32 int_min a.s.left a.p.x s.0.1 p.0.1 c.min.type_inv c.min.ensures.value ∙ least-is a.s.left a.p.x)
    (side-is w32 int_min a.s.bottom a.p.y s.1.0.1 p.1.0.1 c.min-2.type_inv c.min-2.ensures.value ∙ least-is a.s.bottom a.p.y)
    (side-is w32 int_max a.s.right a.p.x s.1.1.0.1 p.0.1 c.max.type_inv c.max.ensures.value ∙ most-is a.s.right a.p.x)
    (side-is w32 int_max a.s.top a.p.y s.1.1.1.0.1 p.1.0.1 c.max-2.type_inv c.max-2.ensures.value ∙ most-is a.s.top a.p.y)
