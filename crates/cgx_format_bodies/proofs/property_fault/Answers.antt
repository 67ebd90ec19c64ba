-- A long and a string.
use mathlib.Core.Path.{refl}
use native.Mathlib.Omega.{arith}
use Rattle.cgx_spec.specs.declared.Kind.TheVariants.{Property}
use Rattle.cgx_format_bodies.proofs.Faults.{fault-8, fault-on, alone}
use Rattle.cgx_spec.specs.Fields.{width, keeps, rule_of, good, passes}
use Rattle.cgx_spec.specs.Kinds.{layout}
use borrow.Author.Rules.{rules}
use Rattle.cgx_format_bodies.proofs.property_fault.Goals as goal

pub returns-then-b-lt-MIN_SIZE : goal.returns-then-b-lt-MIN_SIZE
unfolding layout width
returns-then-b-lt-MIN_SIZE c = fault-8 Property c.args.fl c.args.b.now tt (λ r. omega arith)

pub returns : goal.returns
unfolding layout width keeps rule_of good passes
returns c = fault-on Property c.args.fl c.args.b.now _ _ _ _ tt (search rules) c.first_broken.ensures refl refl (alone c.string_good-value.ensures) refl
