-- `numbers::signed_long` is right: the number that std makes is that of the format. Assumes nothing.
use mathlib.Core.Path.{◌∙◌}
use mir.Syntax.{w32}
use Rattle.numbers.proofs.Signed.{back, signed_is}
use Rattle.numbers.proofs.signed_long.Goals as goal

pub returns : goal.returns
returns c = back w32 c.cast_signed.type_inv ∙ c.cast_signed.ensures ∙ signed_is w32 c.args.n c.ranges.n.fits
