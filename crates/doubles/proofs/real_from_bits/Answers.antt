-- `doubles::real_from_bits` is right: it asks what the definition asks, in its order. Assumes nothing.
use mathlib.Core.Logic.{inl, inr}
use mathlib.Core.Path.{◌∙◌}
use native.Mathlib.Omega.{arith}
use Rattle.doubles.proofs.Made.{from_zero, from-none, from-ones, from_low, from-high}
use Rattle.doubles.proofs.real_from_bits.Goals as goal

pub returns-then-bits-eq0 : goal.returns-then-bits-eq0
returns-then-bits-eq0 c = from_zero c.args.bits c.if-bits-eq0.true

pub returns-in-0 : goal.returns-in-0
returns-in-0 c = let b = c.args.bits in
    elim c.in-0.is [ inl z ↦ from-none b c.if-bits-eq0.false z | inr o ↦ from-ones b c.if-bits-eq0.false (λ z. omega arith) o ]

pub returns-in-1-to-762 : goal.returns-in-1-to-762
returns-in-1-to-762 c = c.real_lowered.ensures ∙ from_low c.args.bits c.if-bits-eq0.false (λ z. grind arith) (λ o. grind arith) (omega arith)

pub returns-in_default : goal.returns-in_default
returns-in_default c = c.real_raised.ensures ∙ from-high c.args.bits c.if-bits-eq0.false (λ z. grind arith) (λ o. grind arith) (omega arith)
