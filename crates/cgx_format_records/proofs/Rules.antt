-- The rules 6 to 12 of a record, one after another. Assumes nothing.
use Rattle.std.specs.Prelude.{None, Option, Some}
use mathlib.Core.Path.{◌≡◌, refl, sym, ap, ◌∙◌, subst}
use Rattle.std.proofs.lemmas.Option.{none-some}
use mathlib.Core.Bool.{Bool, true, false}
use mathlib.Core.List.{List, ◌∷◌}
use Prim.Native.Nat.{ℕ}
use native.Mathlib.Omega.{arith}
use lib.Dec.{T}
use Rattle.cgx_spec.specs.Fields.{pieces}
use Rattle.cgx_spec.specs.Kinds.{good_flags, layout}
use Rattle.cgx_spec.specs.Records.{Rec, rule, rules, pieces_of, field_rules, broken}
use Rattle.cgx_spec.specs.declared.Kind.{Kind}
use Rattle.cgx_format_bodies.specs.Bodies.{body_fault}
use Rattle.cgx_format_records.specs.Faults.{rule_fault}

-- rule 6 comes first
pub first-6 : (here : Bool) (o : Option Kind) (r : Rec) → here ≡ false → Some 6 ≡ rule_fault here o r
unfolding rules broken
first-6 true o r e = absurd (subst T e tt)
first-6 false None r e = refl
first-6 false (Some k) r e = refl

-- so that a record that breaks no rule is allowed where it is
pub rule-6-kept : (here : Bool) (o : Option Kind) (r : Rec) → None ≡ rule_fault here o r → here ≡ true
rule-6-kept true o r e = refl
rule-6-kept false o r e = absurd (none-some 6 (e ∙ sym (first-6 false o r refl)))

-- ---- the rules in turn, where rule 6 allows the record
module _ (here : Bool) (h : here ≡ true) (k : Kind) (fl : ℕ) (b : List ℕ) (n : ℕ) where
  abbrev fault : Bool → Bool → Option ℕ
  fault x y = broken (rule 6 x ∷ rule 7 y ∷ field_rules (pieces (layout k fl) b))

  abbrev whole : Option ℕ
  whole = rule_fault here (Some k) (record { type = n; flags = fl; body = b })

  pub flags-7 : {w : Bool} → w ≡ good_flags k fl → w ≡ false → Some 7 ≡ whole
  unfolding rules pieces_of broken
  flags-7 g e = sym (ap (λ (x : Bool). fault x (good_flags k fl)) h ∙ ap (fault true) (sym g ∙ e))

  pub body-8 : {w : Bool} {r : Option ℕ} → w ≡ good_flags k fl → w ≡ true → r ≡ body_fault k fl b → r ≡ whole
  unfolding rules pieces_of broken body_fault
  body-8 g e z = z ∙ sym (ap (λ (x : Bool). fault x (good_flags k fl)) h ∙ ap (fault true) (sym g ∙ e))

pub unknown-0 : {here : Bool} → here ≡ true → (r : Rec) → None ≡ rule_fault here None r
unfolding rules broken
unknown-0 h r = sym (ap (λ (x : Bool). rule_fault x None r) h)
