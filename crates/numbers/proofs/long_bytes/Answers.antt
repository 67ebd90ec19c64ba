-- `numbers::long_bytes` is right: the bytes are the digits of the number's bits. Assumes nothing.
use mathlib.Core.Path.{ap, ◌∙◌}
use mir.Syntax.{w32}
use Rattle.cgx_spec.specs.Numbers.{digits, long_bytes}
use Rattle.numbers.proofs.Signed.{unsigned_is}
use Rattle.numbers.proofs.long_bytes.Goals as goal

pub returns : goal.returns
unfolding long_bytes
returns c = c.to_be_bytes.ensures ∙ ap (digits 4) (unsigned_is w32 c.args.n c.ranges.n.sfits)
