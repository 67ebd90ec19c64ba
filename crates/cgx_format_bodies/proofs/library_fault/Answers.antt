-- Two reals, two dates and a name at fixed offsets.
use mathlib.Core.Path.{refl}
use native.Mathlib.Omega.{arith}
use Rattle.cgx_spec.specs.declared.Kind.TheVariants.{Library}
use Rattle.cgx_format_bodies.proofs.Faults.{fault-8, fault-on, alone, pair}
use Rattle.cgx_spec.specs.Fields.{width, keeps, rule_of, good, passes}
use Rattle.cgx_spec.specs.Kinds.{layout}
use borrow.Author.Rules.{rules}
use Rattle.cgx_format_bodies.proofs.library_fault.Goals as goal

pub returns-then-b-lt-MIN_SIZE : goal.returns-then-b-lt-MIN_SIZE
unfolding layout width
returns-then-b-lt-MIN_SIZE c = fault-8 Library c.args.fl c.args.b.now tt (λ r. omega arith)

pub returns : goal.returns
unfolding layout width keeps rule_of good passes
returns c = fault-on Library c.args.fl c.args.b.now _ _ _ _ tt (search rules) c.first_broken.ensures (pair c.date_good-created.ensures c.date_good-modified.ensures) (pair c.positive_bytes-munit.ensures c.positive_bytes-uunit.ensures) (alone c.string_good-name.ensures) refl
