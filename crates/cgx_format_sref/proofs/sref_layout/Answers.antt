-- Each field begins right after what is there before it.
use native.Mathlib.Omega.{arith}
use Rattle.cgx_spec.specs.Kinds.{angle, magnif}
use Rattle.cgx_format_sref.proofs.Laws.{after_is, made-is, made-laid}
use Rattle.cgx_format_sref.proofs.sref_layout.Goals as goal

pub after-array-requires : goal.after-array-requires
after-array-requires c = (omega (arith, after_is (angle c.args.flags) 12 8 c.after-magnif.ensures), omega arith)

pub after-name-requires : goal.after-name-requires
after-name-requires c = (omega (arith, after_is (angle c.args.flags) 12 8 c.after-magnif.ensures, after_is (magnif c.args.flags) c.after-magnif.result 8 c.after-array.ensures), omega arith)

pub returns : goal.returns
returns c = let fl = c.args.flags in
    let x = c.after-magnif in
    let g = c.after-array in
    let n = c.after-name in
    record { value = made-is fl x.result g.result n.result x.ensures g.ensures n.ensures; inside = made-laid fl x.result g.result n.result x.ensures g.ensures n.ensures }
