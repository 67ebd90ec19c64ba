-- `string-is`: a good string by its last byte and the bytes before its last two.
use mathlib.Core.Path.{ap, ◌∙◌}
use mathlib.Core.Bool.{Bool, ◌&&◌}
use Prim.Native.Nat.{◌-◌}
use native.Mathlib.Omega.{arith}
use lib.Dec.{eqb}
use lib.ListN.{length, get_or}
use Rattle.cgx_format_fields.proofs.Strings.{string-empty, string-is}
use Rattle.cgx_format_fields.proofs.string_good.Goals as goal

pub returns-in_default : goal.returns-in_default
returns-in_default c = string-empty c.args.b.now (omega arith)

pub returns : goal.returns
returns c = let b = c.args.b.now in
    ap (λ (v : Bool). v && eqb (get_or b (length b - 1) 0) 0) c.no_zero.ensures ∙ string-is b c.requires (omega arith)
