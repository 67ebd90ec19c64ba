-- The bits of each long, in one word (`Pairs`).
use mathlib.Core.Path.{◌∙◌}
use native.Mathlib.Omega.{arith}
use Rattle.cgx_c_fields.proofs.Pairs.{pair_is}
use Rattle.cgx_c_fields.proofs.pair_at.Goals as goal

pub returns : goal.returns
returns c = let s = c in c.pair_word.ensures ∙ pair_is s.args.f.now s.args.at (λ i. omega (arith, c.type_inv.f i)) s.requires c.bits_of-first.ensures c.bits_of-second.ensures
