-- The one field is the whole body: so many units, and the loop's test.
use Rattle.cgx_spec.specs.Fields.{closed}
use mathlib.Core.Path.{refl, ap, ◌∙◌}
use native.Mathlib.Omega.{arith}
use Rattle.cgx_spec.specs.Fields.{width, keeps, rule_of, good, passes}
use Rattle.cgx_spec.specs.Kinds.{layout}
use Rattle.cgx_spec.proofs.Cuts.{whole}
use Rattle.cgx_format_bodies.proofs.Faults.{fault-8, fault-on, alone}
use Rattle.cgx_spec.specs.declared.Kind.TheVariants.{Poly}
use borrow.Author.Rules.{rules}
use Rattle.cgx_format_bodies.proofs.poly_fault.Goals as goal

pub returns-then-n-ne0 : goal.returns-then-n-ne0
unfolding layout width
returns-then-n-ne0 c = fault-8 Poly c.args.fl c.args.b.now tt (λ r. omega arith)

pub returns-then-count-lt-MIN_COUNT : goal.returns-then-count-lt-MIN_COUNT
unfolding layout width
returns-then-count-lt-MIN_COUNT c = fault-8 Poly c.args.fl c.args.b.now tt (λ r. omega arith)

pub returns : goal.returns
unfolding layout width keeps rule_of good passes
returns c = let s = c.args.b.now in
    fault-on Poly c.args.fl s _ _ _ _ tt (search rules) c.first_broken.ensures refl refl refl (alone (c.closed_good-end.ensures ∙ ap (passes closed) (whole s)))
