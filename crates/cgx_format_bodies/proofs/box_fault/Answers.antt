-- The one field is the whole body: so many units, and the loop's test.
use Prim.Native.Nat.{ℕ}
use mathlib.Core.List.{List}
use Rattle.cgx_spec.specs.Numbers.{longs_of}
use Rattle.cgx_spec.specs.Fields.{in_order}
use mathlib.Core.Path.{refl, ap, ◌∙◌}
use native.Mathlib.Omega.{arith}
use Rattle.cgx_spec.specs.Fields.{width, keeps, rule_of, good, passes}
use Rattle.cgx_spec.specs.Kinds.{layout}
use Rattle.cgx_spec.proofs.Cuts.{whole}
use Rattle.cgx_format_bodies.proofs.Faults.{fault-8, fault-on, alone}
use Rattle.cgx_spec.specs.declared.Kind.TheVariants.{Box}
use borrow.Author.Rules.{rules}
use Rattle.cgx_format_bodies.proofs.box_fault.Goals as goal

pub returns-then-n-ne0 : goal.returns-then-n-ne0
unfolding layout width
returns-then-n-ne0 c = fault-8 Box c.args.fl c.args.b.now tt (λ r. omega arith)

pub returns-then-count-lt-MIN_COUNT : goal.returns-then-count-lt-MIN_COUNT
unfolding layout width
returns-then-count-lt-MIN_COUNT c = fault-8 Box c.args.fl c.args.b.now tt (λ r. omega arith)

pub returns : goal.returns
unfolding layout width keeps rule_of good passes
returns c = let s = c.args.b.now in
    fault-on Box c.args.fl s _ _ _ _ tt (search rules) c.first_broken.ensures refl (alone (c.boxes_good-boxes.ensures ∙ ap (λ (l : List ℕ). in_order (longs_of l)) (whole s))) refl refl
