-- `numbers::short_bytes` is right: the bytes are the digits of the number's bits. Assumes nothing.
use mathlib.Core.Path.{ap, ◌∙◌}
use mir.Syntax.{w16}
use Rattle.cgx_spec.specs.Numbers.{digits, short_bytes}
use Rattle.numbers.proofs.Signed.{unsigned_is}
use Rattle.numbers.proofs.short_bytes.Goals as goal

pub returns : goal.returns
unfolding short_bytes
returns c = c.to_be_bytes.ensures ∙ ap (digits 2) (unsigned_is w16 c.args.n c.ranges.n.sfits)
