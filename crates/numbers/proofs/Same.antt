-- Four bytes are the same where their numbers with the low byte first are, and eight bytes where those of both halves are. Assumes nothing.
use mathlib.Core.Path.{◌≡◌, refl, sym, ap, ap₂, ◌∙◌, subst}
use mathlib.Core.Bool.{Bool, ◌&&◌}
use mathlib.Core.List.{List, [], ◌∷◌, ◌++◌}
use Prim.Native.Nat.{ℕ, ◌+◌, ◌≤◌}
use native.Mathlib.Omega.{arith}
use lib.Dec.{T, eqb, eqb→eq}
use lib.ListN.{length, take, drop, get_or, length-drop}
use lib.Seq.{length-take-le, take-add, drop-drop}
use mir.Syntax.{w32}
use Rattle.std.specs.Int.{from_le_bytes}
use Rattle.std.proofs.lemmas.Nat.{le_bytes_4}
use Rattle.cgx_spec.specs.Numbers.{Bytes}
use Rattle.cgx_spec.specs.Strings.{same}
use Rattle.cgx_spec.proofs.Lists.{and_assoc, bool-ext, eq→eqb, same→eq, same_refl, Bytes-take, Bytes-drop}
use Rattle.numbers.proofs.Parts.{part}

-- ---- four bytes, the low one first

low_same : (x y : List ℕ) → Bytes x → Bytes y → length x ≡ 4 → length y ≡ 4 → eqb (from_le_bytes w32 x) (from_le_bytes w32 y) ≡ same x y
low_same x y hx hy lx ly =
    bool-ext (eqb (from_le_bytes w32 x) (from_le_bytes w32 y)) (same x y)
    (λ t. subst (λ (z : List ℕ). T (same x z)) (sym (le_bytes_4 x _ lx hx refl) ∙ le_bytes_4 y _ ly hy (eqb→eq (from_le_bytes w32 x) (from_le_bytes w32 y) t)) (same_refl x))
    (λ t. eq→eqb (from_le_bytes w32 x) (from_le_bytes w32 y) (ap (from_le_bytes w32) (same→eq x y t)))

-- ---- eight bytes of a slice, by their halves

same-append : (x y p q : List ℕ) → length x ≡ length y → same (x ++ p) (y ++ q) ≡ (same x y && same p q)
unfolding same
same-append [] [] p q h = refl
same-append [] (b ∷ y) p q h = absurd (omega arith)
same-append (a ∷ x) [] p q h = absurd (omega arith)
same-append (a ∷ x) (b ∷ y) p q h = ap (λ (v : Bool). eqb a b && v) (same-append x y p q (omega arith)) ∙ and_assoc (eqb a b) (same x y) (same p q)

module _ (f : List ℕ) (h : Bytes f) where
  abbrev half : ℕ → List ℕ
  half at = take 4 (drop at f)

  halves : (at : ℕ) → take 8 (drop at f) ≡ half at ++ half (at + 4)
  halves at = take-add 4 4 (drop at f) ∙ ap (λ (z : List ℕ). half at ++ take 4 z) (drop-drop 4 at f)

  -- as code reads them
  pub first-low : (at : ℕ) → at + 8 ≤ length f → (get_or f at 0 ∷ get_or f (at + 1) 0 ∷ get_or f (at + 2) 0 ∷ get_or f (at + 3) 0 ∷ []) ≡ half at
  first-low at l = part f at 3 (omega arith)

  pub second-low : (at : ℕ) → at + 8 ≤ length f → (get_or f (at + 4) 0 ∷ get_or f (at + 5) 0 ∷ get_or f (at + 6) 0 ∷ get_or f (at + 7) 0 ∷ []) ≡ half (at + 4)
  second-low at l =
      let a : at + 7 ≡ at + 4 + 3 = omega arith in
      let b : at + 6 ≡ at + 4 + 2 = omega arith in
      let c : at + 5 ≡ at + 4 + 1 = omega arith in
      (λ i. get_or f (at + 4) 0 ∷ get_or f (c i) 0 ∷ get_or f (b i) 0 ∷ get_or f (a i) 0 ∷ []) ∙ part f (at + 4) 3 (omega arith)

  half_length : (at : ℕ) → at + 4 ≤ length f → length (half at) ≡ 4
  half_length at l = length-take-le 4 (drop at f) (omega (arith, length-drop at f))

  half-same : (at other : ℕ) → at + 4 ≤ length f → other + 4 ≤ length f → eqb (from_le_bytes w32 (half at)) (from_le_bytes w32 (half other)) ≡ same (half at) (half other)
  half-same at other l m =
      low_same (half at) (half other) (Bytes-take 4 (drop at f) (Bytes-drop at f h)) (Bytes-take 4 (drop other f) (Bytes-drop other f h)) (half_length at l) (half_length other m)

  pub pair_same : (at other : ℕ) → at + 8 ≤ length f → other + 8 ≤ length f → {x y z w : ℕ}
      → x ≡ from_le_bytes w32 (take 4 (drop at f)) → y ≡ from_le_bytes w32 (take 4 (drop other f)) → z ≡ from_le_bytes w32 (take 4 (drop (at + 4) f)) → w ≡ from_le_bytes w32 (take 4 (drop (other + 4) f))
      → (eqb x y && eqb z w) ≡ same (take 8 (drop at f)) (take 8 (drop other f))
  pair_same at other l m ex ey ez ew =
      ap₂ ◌&&◌ (ap₂ eqb ex ey ∙ half-same at other (omega arith) (omega arith)) (ap₂ eqb ez ew ∙ half-same (at + 4) (other + 4) (omega arith) (omega arith))
      ∙ sym (same-append (half at) (half other) (half (at + 4)) (half (other + 4)) (half_length at (omega arith) ∙ sym (half_length other (omega arith))))
      ∙ sym (ap₂ same (halves at) (halves other))
