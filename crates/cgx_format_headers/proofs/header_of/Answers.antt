-- The parts of the header, from the bytes at the offset.
use mathlib.Core.Path.{◌∙◌}
use native.Mathlib.Omega.{arith}
use Rattle.cgx_format_headers.proofs.HeaderLaws.{converted, header_made}
use Rattle.cgx_format_headers.proofs.header_of.Goals as goal

pub returns : goal.returns
returns c = (header_made c.args.s.now c.args.at (omega arith) c.unsigned_at-size.ensures (c.ok-kind.ensures.value ∙ converted _ _ c.try_from.ensures), omega arith)
