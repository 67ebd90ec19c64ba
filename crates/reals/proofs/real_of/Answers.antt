-- `reals::real_of` is right: without its trailing zero bits a mantissa below 2 ^ 53 is scaled with no rounding, and any other has no double. Assumes nothing.
use mathlib.Core.Path.{◌≡◌, sym, ap, ◌∙◌}
use mathlib.Core.Bool.{Bool, false}
use Prim.Native.Nat.{◌%◌, ◌^◌}
use native.Mathlib.Omega.{arith}
use lib.Count.{trailing_le}
use lib.IntN.{pos}
use lib.Ieee.{fin, of_bits}
use Rattle.cgx_spec.specs.declared.Real.TheVariants.{Inexact}
use Rattle.cgx_spec.specs.Reals.{mantissa, exponent}
use Rattle.cgx_spec.proofs.RealLaws.{negative-no, negative-yes, negative-leb}
use Rattle.cgx_spec.proofs.DoubleLaws.{tz-pos, exact-zero, exact-not, double-zero, answer-exact, answer-inexact, answer-plus, answer-minus}
use Rattle.reals.proofs.real_of.Goals as goal

pub returns-then-m-eq0 : goal.returns-then-m-eq0
unfolding mantissa of_bits
returns-then-m-eq0 c = let w = c.args.w in
    sym (answer-exact w (fin false 0 (pos 0)) (exact-zero w c.if-m-eq0.true) (double-zero w c.if-m-eq0.true))

pub returns-then-q-ge9007199254740992 : goal.returns-then-q-ge9007199254740992
unfolding mantissa exponent
returns-then-q-ge9007199254740992 c = let w = c.args.w in
    sym (answer-inexact w (exact-not w (omega arith)) ∙ ap (λ (s : Bool). Inexact s (exponent w) (mantissa w)) (negative-leb w c.ranges.w.fits))

pub scaled-y-requires : goal.scaled-y-requires
scaled-y-requires c = let m = c.args.w % 2 ^ 56 in
    let z : m ≡ 0 → ⊥ = c.if-m-eq0.false in
    (tz-pos 64 m (omega arith), c.if-q-ge9007199254740992.false, omega (arith, trailing_le 64 m))

pub returns-then-w-lt9223372036854775808 : goal.returns-then-w-lt9223372036854775808
unfolding mantissa exponent
returns-then-w-lt9223372036854775808 c = let b = c in
    answer-plus b.args.w b.if-m-eq0.false c.if-q-ge9007199254740992.false (negative-no b.args.w c.if-w-lt9223372036854775808.true) c.scaled-y.result c.scaled-y.ensures

pub returns-else-w-lt9223372036854775808 : goal.returns-else-w-lt9223372036854775808
unfolding mantissa exponent
returns-else-w-lt9223372036854775808 c = let b = c in
    answer-minus b.args.w b.if-m-eq0.false c.if-q-ge9007199254740992.false (negative-yes b.args.w c.if-w-lt9223372036854775808.false b.ranges.w.fits) c.scaled-y.result c.scaled-y.ensures
