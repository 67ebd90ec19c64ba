-- `numbers::long_of` is right: it is the signed number that the bytes' number means. Assumes nothing.
use mathlib.Core.Path.{ap, ◌∙◌}
use Prim.Native.Nat.{◌^◌}
use native.Mathlib.Omega.{arith}
use mir.Syntax.{w32}
use Rattle.cgx_spec.specs.Numbers.{twos, long_of}
use Rattle.numbers.proofs.Signed.{back, signed_is}
use Rattle.numbers.proofs.long_of.Goals as goal

pub returns : goal.returns
unfolding long_of
returns c =
    back w32 c.from_be_bytes.type_inv
    ∙ c.from_be_bytes.ensures
    ∙ signed_is w32 _ (omega (arith, c.ranges.a.fits, c.ranges.b.fits, c.ranges.c.fits, c.ranges.d.fits))
    ∙ ap (twos (2 ^ 31)) (omega arith)
