-- Where the fields of an SREF begin. Assumes nothing.
use mathlib.Core.Path.{◌≡◌, refl, ap, ◌∙◌, subst}
use mathlib.Core.Bool.{Bool, true, false, not, cond}
use Prim.Native.Nat.{ℕ, ◌+◌, ◌%◌, ◌≤◌}
use native.Mathlib.Omega.{arith}
use lib.Dec.{T}
use Rattle.cgx_spec.specs.Kinds.{angle, magnif, array}
use Rattle.cgx_format_sref.specs.declared.SrefLayout.{SrefLayout}
use Rattle.cgx_format_sref.specs.Layouts.{array_offset, name_offset, sref_layout, Laid}

never : {A : Type 0} → false ≡ true → A
never q = absurd (subst (λ (v : Bool). T (not v)) q tt)

-- where the next field begins, w bytes after o or at o
pub after_is : (v : Bool) (o w : ℕ) {x : ℕ} → x ≡ cond v (o + w) o → (o ≤ x) × (x ≤ o + w) × (v ≡ true → o + w ≤ x) × (o % 2 ≡ 0 → w % 2 ≡ 0 → x % 2 ≡ 0)
after_is true o w e = (omega arith, omega arith, (λ q. omega arith), λ p q. omega arith)
after_is false o w e = (omega arith, omega arith, never, λ p q. omega arith)

module _ (fl x g n : ℕ) (ex : x ≡ cond (angle fl) 20 12) (eg : g ≡ cond (magnif fl) (x + 8) x) (en : n ≡ cond (array fl) (g + 24) g) where
  abbrev made : SrefLayout
  made = record { turned = angle fl; scaled = magnif fl; repeated = array fl; magnif = x; array = g; name = n }

  pub made-is : made ≡ sref_layout fl
  made-is =
      let eg' : g ≡ array_offset (angle fl) (magnif fl) = eg ∙ ap (λ (k : ℕ). cond (magnif fl) (k + 8) k) ex in
      let en' : n ≡ name_offset (angle fl) (magnif fl) (array fl) = en ∙ ap (λ (k : ℕ). cond (array fl) (k + 24) k) eg' in
      λ i. record { turned = angle fl; scaled = magnif fl; repeated = array fl; magnif = ex i; array = eg' i; name = en' i }

  pub made-laid : Laid made
  made-laid =
      let a = after_is (angle fl) 12 8 ex in
      let m = after_is (magnif fl) x 8 eg in
      let r = after_is (array fl) g 24 en in
      record {
        first = omega arith;
        second = omega arith;
        third = omega arith;
        last = omega arith;
        even = r.3 (m.3 (a.3 refl refl) refl) refl;
        angle-in = λ q. omega (arith, a.2 q);
        magnif-in = λ q. omega (arith, m.2 q);
        array-in = λ q. omega (arith, r.2 q);
      }
