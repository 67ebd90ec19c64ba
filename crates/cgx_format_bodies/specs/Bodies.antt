-- The number of the first of the rules 8 to 12 that a body breaks, if any. Definitions only.
use Rattle.std.specs.Prelude.{List, ◌≡◌, ℕ, ◌%◌, ◌≤◌, length, Option}
use Rattle.cgx_spec.specs.declared.Kind.{Kind}
use Rattle.cgx_spec.specs.Fields.{pieces}
use Rattle.cgx_spec.specs.Kinds.{layout}
use Rattle.cgx_spec.specs.Records.{field_rules, broken}

unfoldable pub body_fault : Kind → ℕ → List ℕ → Option ℕ
body_fault k fl b = broken (field_rules (pieces (layout k fl) b))

-- A body as a record of an even size up to 65,534 has it.
pub record Body (b : List ℕ) : Type 0 where
  pub even : length b % 2 ≡ 0
  pub small : length b ≤ 65530
