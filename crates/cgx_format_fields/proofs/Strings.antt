-- A good string by its last byte and the bytes before its last two; and what `contains` and `ends_with` say. Assumes nothing.
use mathlib.Core.Path.{◌≡◌, refl, sym, ap, ◌∙◌}
use mathlib.Core.Bool.{Bool, true, false, not, ◌&&◌, ◌||◌}
use mathlib.Core.List.{List, [], ◌∷◌}
use Prim.Native.Nat.{ℕ, zero, suc, ◌-◌, ◌<◌, ◌%◌}
use native.Mathlib.Omega.{arith}
use Rattle.std.proofs.Math.Bool.{and-false}
use borrow.Author.Tests.{eq-eqb, ne_eqb}
use lib.Dec.{eqb}
use lib.ListN.{length, take, get_or}
use Rattle.std.specs.List.{list_any}
use Rattle.std.specs.Cmp.Lexicographic.{pointwise}
use Rattle.cgx_spec.specs.Strings.{same, text_of, padded, good_string}
use Rattle.cgx_spec.specs.Fields.{good, optional}
use Rattle.cgx_spec.proofs.Lists.{and-true, and_assoc}
use Rattle.cgx_format_fields.specs.Zeros.{no_zero}

-- ---- a string, two bytes at a time

eqb-self : (n : ℕ) → eqb n n ≡ true
eqb-self n = eq-eqb n n refl

-- the last two
last-two : (x y : ℕ) → good_string (x ∷ y ∷ []) ≡ eqb y 0
unfolding good_string same text_of padded
last-two zero y = and-true (eqb y 0)
last-two (suc x) zero = ap (λ (v : Bool). v && true) (eqb-self (suc x))
last-two (suc x) (suc y) =
    ap (λ (v : Bool). v && (eqb (suc y) (suc y) && false)) (eqb-self (suc x)) ∙ and-false (eqb (suc y) (suc y)) ∙ sym (ne_eqb (suc y) 0 (λ e. omega arith))

-- two with more after them
two-more : (x y z : ℕ) (t : List ℕ) → good_string (x ∷ y ∷ z ∷ t) ≡ (not (eqb x 0) && (not (eqb y 0) && good_string (z ∷ t)))
unfolding good_string same text_of padded
two-more zero y z t = and-false (eqb y 0)
two-more (suc x) zero z t = and-false (eqb (suc x) (suc x)) ∙ sym (and-false (not (eqb (suc x) 0)))
two-more (suc x) (suc y) z t =
    let g = same (z ∷ t) (padded (text_of (z ∷ t))) in
    let ex : not (eqb (suc x) 0) ≡ true = ap not (ne_eqb (suc x) 0 (λ e. omega arith)) in
    let ey : not (eqb (suc y) 0) ≡ true = ap not (ne_eqb (suc y) 0 (λ e. omega arith)) in
    ap (λ (v : Bool). v && (eqb (suc y) (suc y) && g)) (eqb-self (suc x)) ∙ ap (λ (v : Bool). v && g) (eqb-self (suc y))
    ∙ sym (ap (λ (v : Bool). v && (not (eqb (suc y) 0) && g)) ex ∙ ap (λ (v : Bool). v && g) ey)

pub string-is : (b : List ℕ) → length b % 2 ≡ 0 → 0 < length b → (no_zero (take (length b - 2) b) && eqb (get_or b (length b - 1) 0) 0) ≡ good_string b
unfolding no_zero
string-is [] h l = absurd (omega arith)
string-is (x ∷ []) h l = absurd (omega arith)
string-is (x ∷ y ∷ []) h l = sym (last-two x y)
string-is (x ∷ y ∷ z ∷ t) h l =
    let n = length (z ∷ t) in
    let ih = string-is (z ∷ t) (omega arith) (omega arith) in
    let e₁ : suc (suc n) - 2 ≡ suc (suc (n - 2)) = omega arith in
    let e₂ : suc (suc n) - 1 ≡ suc (suc (n - 1)) = omega arith in
    ap (λ (k : ℕ). no_zero (take k (x ∷ y ∷ z ∷ t)) && eqb (get_or (x ∷ y ∷ z ∷ t) (suc (suc n) - 1) 0) 0) e₁
    ∙ ap (λ (k : ℕ). no_zero (take (suc (suc (n - 2))) (x ∷ y ∷ z ∷ t)) && eqb (get_or (x ∷ y ∷ z ∷ t) k 0) 0) e₂
    ∙ sym (and_assoc (not (eqb x 0)) (not (eqb y 0) && no_zero (take (n - 2) (z ∷ t))) (eqb (get_or (z ∷ t) (n - 1) 0) 0))
    ∙ ap (λ (v : Bool). not (eqb x 0) && v) (sym (and_assoc (not (eqb y 0)) (no_zero (take (n - 2) (z ∷ t))) (eqb (get_or (z ∷ t) (n - 1) 0) 0)))
    ∙ ap (λ (v : Bool). not (eqb x 0) && (not (eqb y 0) && v)) ih
    ∙ sym (two-more x y z t)

pub string-empty : (b : List ℕ) → length b ≡ 0 → false ≡ good_string b
unfolding good_string same text_of padded
string-empty [] h = refl
string-empty (x ∷ b) h = absurd (omega arith)

pub optional-none : (b : List ℕ) → length b ≡ 0 → true ≡ good optional b
unfolding good
optional-none [] h = refl
optional-none (a ∷ b) h = absurd (omega arith)

pub optional-some : (b : List ℕ) {r : Bool} → (length b ≡ 0 → ⊥) → r ≡ good_string b → r ≡ good optional b
unfolding good
optional-some [] h e = absurd (h refl)
optional-some (a ∷ b) h e = e

-- ---- as the library's methods say it

not-or : (a b : Bool) → not (a || b) ≡ (not a && not b)
not-or true b = refl
not-or false b = refl

pub none-found : (b : List ℕ) → not (list_any (λ y. eqb y 0) b) ≡ no_zero b
unfolding no_zero
none-found [] = refl
none-found (x ∷ b) = not-or (eqb x 0) (list_any (λ y. eqb y 0) b) ∙ ap (λ (v : Bool). not (eqb x 0) && v) (none-found b)

pub pointwise-same : (a b : List ℕ) → pointwise eqb a b ≡ same a b
unfolding same
pointwise-same [] [] = refl
pointwise-same [] (y ∷ b) = refl
pointwise-same (x ∷ a) [] = refl
pointwise-same (x ∷ a) (y ∷ b) = ap (λ (v : Bool). eqb x y && v) (pointwise-same a b)
