-- The rules 8 and 12 of a POLY, as the code finds them. Assumes nothing.
use Rattle.std.specs.Prelude.{None, Option, Some}
use Rattle.std.specs.Bool.{Decides, one_answer}
use Rattle.std.specs.List.{ends_with}
use Rattle.std.specs.Cmp.Lexicographic.{pointwise}
use Rattle.std.specs.Ordering.{int_eq}
use Rattle.std.specs.Cmp.Rules.{signed_items}
use mathlib.Core.Path.{◌≡◌, refl, sym, ap, ◌∙◌, subst}
use mathlib.Core.Bool.{Bool, true, false, ◌&&◌, cond}
use mathlib.Core.List.{List}
use Prim.Native.Nat.{ℕ, ◌-◌, ◌/◌, ◌%◌, ◌≤◌, ◌<◌}
use native.Mathlib.Omega.{arith}
use borrow.Author.Tests.{eq-eqb, ne_eqb, le-leb, lt-leb}
use lib.Dec.{T, leb, eqb}
use lib.IntN.{ℤ}
use lib.ListN.{length, take, drop}
use lib.Seq.{length-take-le}
use Rattle.cgx_spec.specs.Fields.{closed, rule_of}
use Rattle.cgx_spec.specs.Kinds.{layout}
use Rattle.cgx_spec.specs.Records.{broken}
use Rattle.cgx_spec.proofs.Lists.{T→true, true→T}
use Rattle.cgx_write_given.specs.Given.{alike, meets, enough, groups, good_item, good_list, enough_given, keeps_given, given_poly}
use Rattle.cgx_write_plans.specs.Plans.{given_fault}
use Rattle.cgx_write_given.proofs.Items.{alike→eq, alike_refl}

-- ---- the first of the rules 7 to 12 that is broken

module _ (zs : List ℤ) where
  abbrev four-pairs : Bool
  four-pairs = eqb (length zs % 2) 0 && leb 4 (length zs / 2)

  poly-fault : cond {A = Option ℕ} four-pairs (cond (meets closed zs) None (Some 12)) (Some 8) ≡ given_fault (given_poly zs)
  unfolding given_fault given_poly broken enough_given layout keeps_given enough groups good_item good_list rule_of
  poly-fault = one four-pairs (meets closed zs)
    where
      one : (a b : Bool) → cond {A = Option ℕ} a (cond b None (Some 12)) (Some 8) ≡ cond (a && true) (cond (b && true) None (Some 12)) (Some 8)
      one true true = refl
      one true false = refl
      one false b = refl

  eight : four-pairs ≡ false → Some 8 ≡ given_fault (given_poly zs)
  eight h = sym (ap (λ (b : Bool). cond {A = Option ℕ} b (cond (meets closed zs) None (Some 12)) (Some 8)) h) ∙ poly-fault

  pub poly-uneven : (length zs % 2 ≡ 0 → ⊥) → Some 8 ≡ given_fault (given_poly zs)
  poly-uneven h = eight (simp (ne_eqb (length zs % 2) 0 h))

  pub poly-few : length zs % 2 ≡ 0 → length zs < 8 → Some 8 ≡ given_fault (given_poly zs)
  poly-few e h = eight (simp (eq-eqb (length zs % 2) 0 e, lt-leb 4 (length zs / 2) (omega arith)))

  pub poly-is : (b : Bool) → length zs % 2 ≡ 0 → 8 ≤ length zs → meets closed zs ≡ b → cond b None (Some 12) ≡ given_fault (given_poly zs)
  poly-is b e h q =
      let f : four-pairs ≡ true = simp (eq-eqb (length zs % 2) 0 e, le-leb 4 (length zs / 2) (omega arith)) in
      sym (ap (λ (x : Bool). cond {A = Option ℕ} x None (Some 12)) q) ∙ sym (ap (λ (x : Bool). cond {A = Option ℕ} x (cond (meets closed zs) None (Some 12)) (Some 8)) f) ∙ poly-fault

-- ---- the first point and the last

alike-decides : (xs ys : List ℤ) → Decides (alike xs ys) (xs ≡ ys)
alike-decides xs ys = ((λ e. alike→eq xs ys (true→T e)), (λ q. T→true (subst (λ (l : List ℤ). T (alike xs l)) q (alike_refl xs))))

pub closed_is : (zs : List ℤ) → 2 ≤ length zs → ends_with int_eq zs (take 2 zs) ≡ meets closed zs
unfolding meets
closed_is zs h =
    let x = take 2 zs in
    let y = drop (length zs - 2) zs in
    ap (λ (n : ℕ). pointwise int_eq x (drop (length zs - n) zs)) (length-take-le 2 zs h) ∙ one_answer (pointwise int_eq x y) (alike x y) (signed_items x y) (alike-decides x y)
