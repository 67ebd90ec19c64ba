-- `numbers::long_bits` is right: the bits that std makes are those of the format. Assumes nothing.
use mathlib.Core.Path.{◌∙◌}
use mir.Syntax.{w32}
use Rattle.numbers.proofs.Signed.{unsigned_is}
use Rattle.numbers.proofs.long_bits.Goals as goal

pub returns : goal.returns
returns c = c.cast_unsigned.ensures ∙ unsigned_is w32 c.args.n c.ranges.n.sfits
