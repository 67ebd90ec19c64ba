-- The first rule that a record breaks, as a number. Definitions only.
use Rattle.std.specs.Prelude.{Bool, List, ◌≡◌, ℕ, Option}
use Rattle.cgx_spec.specs.declared.Kind.{Kind}
use Rattle.cgx_spec.specs.Records.{Rec, broken, rules}

-- The number of the first of the rules 6 to 12 that a record of this kind breaks, if any, where rule 6 allows it or does not.
abbrev pub rule_fault : Bool → Option Kind → Rec → Option ℕ
rule_fault here o r = broken (rules here o r)

-- Beside the kind the type byte does not matter.
abbrev pub FaultIs : Bool → Option Kind → ℕ → List ℕ → Option ℕ → Type 0
FaultIs here o fl b r = (n : ℕ) → r ≡ rule_fault here o (record { type = n; flags = fl; body = b })
