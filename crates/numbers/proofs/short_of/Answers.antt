-- `numbers::short_of` is right: it is the signed number that the bytes' number means. Assumes nothing.
use mathlib.Core.Path.{ap, ◌∙◌}
use Prim.Native.Nat.{◌^◌}
use native.Mathlib.Omega.{arith}
use mir.Syntax.{w16}
use Rattle.cgx_spec.specs.Numbers.{twos, short_of}
use Rattle.numbers.proofs.Signed.{back, signed_is}
use Rattle.numbers.proofs.short_of.Goals as goal

pub returns : goal.returns
unfolding short_of
returns c = back w16 c.from_be_bytes.type_inv ∙ c.from_be_bytes.ensures ∙ signed_is w16 _ (omega (arith, c.ranges.a.fits, c.ranges.b.fits)) ∙ ap (twos (2 ^ 15)) (omega arith)
