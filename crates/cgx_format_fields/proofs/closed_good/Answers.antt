-- The first eight bytes and the last eight.
use mathlib.Core.Path.{ap, ◌∙◌}
use Prim.Native.Nat.{ℕ, ◌-◌}
use lib.ListN.{length, take, drop}
use lib.Seq.{length-take-le}
use Rattle.cgx_spec.specs.Strings.{same}
use Rattle.cgx_spec.specs.Fields.{passes}
use Rattle.cgx_format_fields.proofs.Strings.{pointwise-same}
use Rattle.cgx_format_fields.proofs.closed_good.Goals as goal

pub returns : goal.returns
unfolding passes
returns c = let b = c.args.b.now in
    c.ends_with.ensures.value ∙ pointwise-same (take 8 b) (drop (length b - length (take 8 b)) b)
    ∙ ap (λ (n : ℕ). same (take 8 b) (drop (length b - n) b)) (length-take-le 8 b c.requires)
