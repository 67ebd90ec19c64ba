-- `reals::real_positive` is right: the sign bit is the top bit of the word, and a real with no sign is above zero where its mantissa is. Assumes nothing.
use mathlib.Core.Path.{sym, ap, ◌∙◌}
use mathlib.Core.Bool.{Bool, not, ◌&&◌}
use Prim.Native.Nat.{◌^◌}
use borrow.Author.Tests.{le-ltb}
use lib.Dec.{ltb}
use Rattle.cgx_spec.specs.Reals.{mantissa}
use Rattle.cgx_spec.proofs.RealLaws.{positive-parts, negative-no, negative-yes}
use Rattle.reals.proofs.real_positive.Goals as goal

pub returns-then-w-lt9223372036854775808 : goal.returns-then-w-lt9223372036854775808
unfolding mantissa
returns-then-w-lt9223372036854775808 c = let w = c.args.w in
    sym (positive-parts w ∙ ap (λ (s : Bool). not s && ltb 0 (mantissa w)) (negative-no w c.if-w-lt9223372036854775808.true))

pub returns-else-w-lt9223372036854775808 : goal.returns-else-w-lt9223372036854775808
returns-else-w-lt9223372036854775808 c = let w = c.args.w in
    le-ltb w (2 ^ 63) c.if-w-lt9223372036854775808.false ∙ sym (positive-parts w ∙ ap (λ (s : Bool). not s && ltb 0 (mantissa w)) (negative-yes w c.if-w-lt9223372036854775808.false c.ranges.w.fits))
