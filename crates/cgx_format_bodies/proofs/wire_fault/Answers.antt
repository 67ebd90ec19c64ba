-- The width and so many pairs; any numbers will do.
use mathlib.Core.Path.{refl}
use mathlib.Core.Bool.{true}
use native.Mathlib.Omega.{arith}
use Rattle.cgx_spec.specs.Fields.{width, keeps, rule_of, good, passes}
use Rattle.cgx_spec.specs.Kinds.{layout}
use Rattle.cgx_spec.specs.Records.{broken}
use Rattle.cgx_format_bodies.proofs.Faults.{fault-8, fault-on}
use Rattle.cgx_spec.specs.declared.Kind.TheVariants.{Wire}
use borrow.Author.Rules.{rules}
use Rattle.cgx_format_bodies.proofs.wire_fault.Goals as goal

pub returns-then-b-lt-WIDTH_SIZE : goal.returns-then-b-lt-WIDTH_SIZE
unfolding layout width
returns-then-b-lt-WIDTH_SIZE c = fault-8 Wire c.args.fl c.args.b.now tt (λ r. omega arith)

pub returns-then-n-ne0 : goal.returns-then-n-ne0
unfolding layout width
returns-then-n-ne0 c = fault-8 Wire c.args.fl c.args.b.now tt (λ r. omega arith)

pub returns-then-count-lt-MIN_COUNT : goal.returns-then-count-lt-MIN_COUNT
unfolding layout width
returns-then-count-lt-MIN_COUNT c = fault-8 Wire c.args.fl c.args.b.now tt (λ r. omega arith)

pub returns : goal.returns
unfolding layout width keeps rule_of good passes broken
returns c = fault-on Wire c.args.fl c.args.b.now true true true true tt (search rules) refl refl refl refl refl
