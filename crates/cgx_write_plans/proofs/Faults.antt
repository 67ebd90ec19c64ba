-- The first of the rules 7 to 12 that each call breaks, as the code finds it. Assumes nothing.
use Rattle.std.specs.Prelude.{None, Option, Some}
use mathlib.Core.Path.{◌≡◌, refl, sym, ap, ◌∙◌}
use mathlib.Core.Bool.{Bool, true, false, ◌&&◌, cond}
use mathlib.Core.List.{List}
use Prim.Native.Nat.{ℕ, ◌/◌, ◌%◌, ◌≤◌, ◌<◌}
use native.Mathlib.Omega.{arith}
use borrow.Author.Tests.{eq-eqb, ne_eqb, le-leb, lt-leb}
use lib.Dec.{leb, eqb}
use lib.IntN.{ℤ}
use lib.ListN.{length}
use Rattle.cgx_spec.specs.Fields.{in_order, rule_of}
use Rattle.cgx_spec.specs.Kinds.{layout}
use Rattle.cgx_spec.specs.Records.{broken}
use Rattle.cgx_format_fields.specs.Zeros.{no_zero}
use Rattle.cgx_format_kinds.specs.declared.Point.{Point}
use Rattle.cgx_format_kinds.specs.declared.LayerNo.{LayerNo}
use Rattle.cgx_format_kinds.specs.declared.DataType.{DataType}
use Rattle.cgx_write_given.specs.Given.{enough, groups, good_item, good_list, meets, enough_given, keeps_given, style_of, given_layer, given_box, given_wire, given_text, given_endlib}
use Rattle.cgx_write_plans.specs.Plans.{text_fault, wire_fault, given_fault}

-- ---- LAYER without a name

module _ (n : LayerNo) (d : DataType) where
  pub layer-fault : None ≡ given_fault (given_layer n d None)
  unfolding given_fault given_layer broken enough_given layout keeps_given enough good_item rule_of
  layer-fault = refl

-- ---- BOX

few : (u l : ℕ) (b : Bool) → eqb (l % u) 0 ≡ b → leb 1 (l / u) ≡ false → (eqb (l % u) 0 && leb 1 (l / u)) ≡ false
few u l true e f = simp (e, f)
few u l false e f = simp e

module _ (zs : List ℤ) where
  box-fault : cond {A = Option ℕ} (eqb (length zs % 4) 0 && leb 1 (length zs / 4)) (cond (in_order zs) None (Some 10)) (Some 8) ≡ given_fault (given_box zs)
  unfolding given_fault given_box broken enough_given layout keeps_given enough groups good_item good_list meets rule_of
  box-fault = one (eqb (length zs % 4) 0 && leb 1 (length zs / 4)) (in_order zs)
    where
      one : (a b : Bool) → cond {A = Option ℕ} a (cond b None (Some 10)) (Some 8) ≡ cond (a && true) (cond (b && true) None (Some 10)) (Some 8)
      one true true = refl
      one true false = refl
      one false b = refl

  pub box-uneven : (length zs % 4 ≡ 0 → ⊥) → Some 8 ≡ given_fault (given_box zs)
  box-uneven h = sym (ap (λ (b : Bool). cond {A = Option ℕ} (b && leb 1 (length zs / 4)) (cond (in_order zs) None (Some 10)) (Some 8)) (ne_eqb (length zs % 4) 0 h)) ∙ box-fault

  pub box-few : length zs < 4 → Some 8 ≡ given_fault (given_box zs)
  box-few h = sym (ap (λ (b : Bool). cond {A = Option ℕ} b (cond (in_order zs) None (Some 10)) (Some 8)) (few 4 (length zs) (eqb (length zs % 4) 0) refl (lt-leb 1 (length zs / 4) (omega arith)))) ∙ box-fault

  box-enough : length zs % 4 ≡ 0 → 4 ≤ length zs → (eqb (length zs % 4) 0 && leb 1 (length zs / 4)) ≡ true
  box-enough e h = simp (eq-eqb (length zs % 4) 0 e, le-leb 1 (length zs / 4) (omega arith))

  pub box-is : (b : Bool) → length zs % 4 ≡ 0 → 4 ≤ length zs → in_order zs ≡ b → cond b None (Some 10) ≡ given_fault (given_box zs)
  box-is b e h q = sym (ap (λ (x : Bool). cond {A = Option ℕ} x None (Some 10)) q) ∙ sym (ap (λ (x : Bool). cond {A = Option ℕ} x (cond (in_order zs) None (Some 10)) (Some 8)) (box-enough e h)) ∙ box-fault

-- ---- a text

eleven : (b : Bool) → cond {A = Option ℕ} b None (Some 11) ≡ cond (b && true) None (Some 11)
eleven true = refl
eleven false = refl

-- ---- LAYER with a name

module _ (n : LayerNo) (d : DataType) (t : List ℕ) where
  pub named-fault : text_fault t ≡ given_fault (given_layer n d (Some t))
  unfolding given_fault given_layer broken enough_given layout keeps_given enough good_item rule_of
  named-fault = eleven (no_zero t)

-- ---- WIRE

pub pairs-uneven : (l : ℕ) → (l % 2 ≡ 0 → ⊥) → (eqb (l % 2) 0 && leb 1 (l / 2)) ≡ false
pairs-uneven l h = simp (ne_eqb (l % 2) 0 h)

pub pairs-few : (l : ℕ) → l < 2 → (eqb (l % 2) 0 && leb 1 (l / 2)) ≡ false
pairs-few l h = few 2 l (eqb (l % 2) 0) refl (lt-leb 1 (l / 2) (omega arith))

pub pairs-enough : (l : ℕ) → l % 2 ≡ 0 → 2 ≤ l → (eqb (l % 2) 0 && leb 1 (l / 2)) ≡ true
pairs-enough l e h = simp (eq-eqb (l % 2) 0 e, le-leb 1 (l / 2) (omega arith))

pub wire-style : (s fl n : ℕ) → fl ≡ s → 2 < fl → Some 7 ≡ wire_fault s n
unfolding wire_fault
wire-style s fl n q h = let t : leb s 2 ≡ false = lt-leb s 2 (omega arith) in rw t

pub wire-is : (s fl n : ℕ) → fl ≡ s → (b : Bool) → fl ≤ 2 → (eqb (n % 2) 0 && leb 1 (n / 2)) ≡ b → cond b None (Some 8) ≡ wire_fault s n
unfolding wire_fault
wire-is s fl n q b h e = let t : leb s 2 ≡ true = le-leb s 2 (omega arith) in rw (t, e)

pub wire-fault : (s : Option ℕ) (w : ℤ) (zs : List ℤ) → wire_fault (style_of s) (length zs) ≡ given_fault (given_wire s w zs)
unfolding wire_fault given_fault given_wire broken enough_given layout keeps_given enough groups good_item good_list meets rule_of
wire-fault s w zs = one (leb (style_of s) 2) (eqb (length zs % 2) 0 && leb 1 (length zs / 2))
  where
    one : (a b : Bool) → cond {A = Option ℕ} a (cond b None (Some 8)) (Some 7) ≡ cond a (cond (b && true) None (Some 8)) (Some 7)
    one true true = refl
    one true false = refl
    one false b = refl

-- ---- TEXT

module _ (fl : ℕ) (p : Point) (w : ℤ) (t : List ℕ) where
  pub label-fault : text_fault t ≡ given_fault (given_text fl p w t)
  unfolding given_fault given_text broken enough_given layout keeps_given enough groups good_item good_list meets rule_of
  label-fault = eleven (no_zero t)

-- ---- ENDLIB

pub endlib-fault : None ≡ given_fault given_endlib
unfolding given_fault given_endlib broken enough_given layout keeps_given
endlib-fault = refl
