-- Where the text of a good string ends: its last byte but one is the first of two zero bytes, or the last of the text. Assumes nothing.
use mathlib.Core.Path.{◌≡◌, refl, sym, ap, ◌∙◌, subst}
use mathlib.Core.List.{List, [], ◌∷◌}
use Prim.Native.Nat.{ℕ, zero, suc, ◌+◌, ◌-◌, ◌≤◌}
use native.Mathlib.Nat.{suc-ne-zero}
use native.Mathlib.Omega.{arith}
use lib.Dec.{T, eqb}
use lib.ListN.{length, take, drop, get_or, length-drop}
use lib.Seq.{length-take-le, take-take, get_or-take, get_or-drop}
use Rattle.cgx_spec.specs.Strings.{text_of, padded, same, good_string}
use Rattle.cgx_spec.specs.Fields.{string, text, value}
use Rattle.cgx_spec.proofs.Lists.{true→T, and_right, same→eq}
use Rattle.cgx_format_kinds.specs.Meant.{span_text}
use Rattle.cgx_read_fields.specs.Views.{StringAt}

padded-two : (t : List ℕ) → 2 ≤ length (padded t)
unfolding padded
padded-two [] = omega arith
padded-two (a ∷ []) = omega arith
padded-two (a ∷ b ∷ t) = let h = padded-two t in omega arith

pub two-at-least : (b : List ℕ) → T (good_string b) → 2 ≤ length b
unfolding good_string
two-at-least b t = subst (λ (l : List ℕ). 2 ≤ length l) (sym (same→eq b (padded (text_of b)) t)) (padded-two (text_of b))

-- where byte n of a string of n + 2 is zero, and where it is not
abbrev Ends : List ℕ → ℕ → Type 0
Ends b n = (get_or b n 0 ≡ 0 → text_of b ≡ take n b) × ((get_or b n 0 ≡ 0 → ⊥) → text_of b ≡ take (suc n) b)

longer : (x y : ℕ) (b : List ℕ) (n : ℕ) → T (good_string b) → length (suc x ∷ suc y ∷ b) ≡ suc (suc n) → ((k : ℕ) → length b ≡ suc (suc k) → Ends b k) → Ends (suc x ∷ suc y ∷ b) n
unfolding text_of
longer x y b zero t e h = absurd (let l = two-at-least b t in omega arith)
longer x y b (suc zero) t e h = absurd (let l = two-at-least b t in omega arith)
longer x y b (suc (suc n)) t e h =
    let r = h n (omega arith) in
    ((λ z. ap (λ (l : List ℕ). suc x ∷ suc y ∷ l) (r.0 z)), (λ z. ap (λ (l : List ℕ). suc x ∷ suc y ∷ l) (r.1 z)))

pub ends : (b : List ℕ) (n : ℕ) → T (good_string b) → length b ≡ suc (suc n) → Ends b n
unfolding good_string text_of padded same
ends [] n t e = absurd (omega arith)
ends (x ∷ []) n t e = absurd (omega arith)
ends (zero ∷ y ∷ []) zero t e = ((λ z. refl), (λ z. absurd (z refl)))
ends (zero ∷ y ∷ c ∷ b) zero t e = absurd (omega arith)
ends (zero ∷ y ∷ b) (suc n) t e = absurd (let q = ap length (same→eq (zero ∷ y ∷ b) (0 ∷ 0 ∷ []) t) in omega arith)
ends (suc x ∷ zero ∷ []) zero t e = ((λ z. absurd (suc-ne-zero x z)), (λ z. refl))
ends (suc x ∷ zero ∷ c ∷ b) zero t e = absurd (omega arith)
ends (suc x ∷ zero ∷ b) (suc n) t e = absurd (let q = ap length (same→eq (suc x ∷ zero ∷ b) (suc x ∷ 0 ∷ []) t) in omega arith)
ends (suc x ∷ suc y ∷ b) n t e = longer x y b n good e (λ k q. ends b k good q)
  where
    good : T (good_string b)
    good = and_right (eqb (suc y) (suc y)) (same b (padded (text_of b))) (and_right (eqb (suc x) (suc x)) (same (suc y ∷ b) (suc y ∷ padded (text_of b))) t)

module _ (f : List ℕ) (at len : ℕ) (s : StringAt f at len) where
  abbrev bytes : List ℕ
  bytes = take len (drop at f)

  bytes-length : length bytes ≡ suc (suc (len - 2))
  bytes-length = let i = s.inside in let l = s.least in length-take-le len (drop at f) (omega (arith, length-drop at f)) ∙ omega arith

  last-but-one : get_or bytes (len - 2) 0 ≡ get_or f (at + (len - 2)) 0
  last-but-one = let l = s.least in get_or-take len (drop at f) (len - 2) 0 (omega arith) ∙ get_or-drop at f (len - 2) 0

  spanned : (n : ℕ) → n ≤ len → text_of bytes ≡ take n bytes → span_text f (record { at = at; len = n }) ≡ value string bytes
  unfolding span_text value
  spanned n h e = ap text (sym (e ∙ take-take n len (drop at f) h))

  pub two-zeros : get_or f (at + (len - 2)) 0 ≡ 0 → span_text f (record { at = at; len = len - 2 }) ≡ value string bytes
  two-zeros z = spanned (len - 2) (omega arith) ((ends bytes (len - 2) (true→T s.good) bytes-length).0 (last-but-one ∙ z))

  pub one-zero : (get_or f (at + (len - 2)) 0 ≡ 0 → ⊥) → span_text f (record { at = at; len = len - 2 + 1 }) ≡ value string bytes
  one-zero z =
      let l = s.least in
      let q : suc (len - 2) ≡ len - 2 + 1 = omega arith in
      spanned (len - 2 + 1) (omega arith) (subst (λ (n : ℕ). text_of bytes ≡ take n bytes) q ((ends bytes (len - 2) (true→T s.good) bytes-length).1 (λ y. z (sym last-but-one ∙ y))))
