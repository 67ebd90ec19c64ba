-- Boxes four numbers at a time. Assumes nothing.
use Rattle.std.specs.List.{fold}
use Rattle.std.specs.Simd.{first_chunks}
use mathlib.Core.Path.{◌≡◌, refl, sym, ap₂, ◌∙◌}
use mathlib.Core.Bool.{Bool, true, false, ◌&&◌}
use mathlib.Core.List.{List, [], ◌∷◌}
use Prim.Native.Nat.{ℕ, zero, suc, ◌*◌, ◌/◌, ◌%◌, ◌<◌}
use native.Mathlib.Omega.{arith}
use lib.IntN.{ℤ, pos}
use lib.Signed.{le_z, mag}
use lib.ListN.{length, get_or}
use mir.Syntax.{w32}
use mir.Val.{to_z, of_z}
use mir.ValLaws.{to_z-of_z}
use Rattle.cgx_spec.specs.Fields.{in_order}
use Rattle.cgx_spec.proofs.Lists.{and-true}

-- a test of two locals is of the numbers that they hold
pub tested : (x y : ℤ) → mag x < 2147483648 → mag y < 2147483648 → le_z (to_z w32 (of_z w32 x)) (to_z w32 (of_z w32 y)) ≡ le_z x y
tested x y hx hy = ap₂ le_z (to_z-of_z w32 x (record { sfits = hx })) (to_z-of_z w32 y (record { sfits = hy }))

-- one box
pub box-order : (b : List ℤ) → length b ≡ 4 → (le_z (get_or b 0 (pos 0)) (get_or b 2 (pos 0)) && le_z (get_or b 1 (pos 0)) (get_or b 3 (pos 0))) ≡ in_order b
unfolding in_order
box-order (l ∷ b ∷ r ∷ t ∷ []) h = sym (and-true (le_z l r && le_z b t))
box-order [] h = absurd (omega arith)
box-order (l ∷ []) h = absurd (omega arith)
box-order (l ∷ b ∷ []) h = absurd (omega arith)
box-order (l ∷ b ∷ r ∷ []) h = absurd (omega arith)
box-order (l ∷ b ∷ r ∷ t ∷ x ∷ zs) h = absurd (omega arith)

-- all of them
all-order : (k : ℕ) (zs : List ℤ) (all : Bool) → length zs ≡ k * 4 → fold (λ (a : Bool) (b : List ℤ). a && in_order b) all (first_chunks 4 k zs) ≡ (all && in_order zs)
unfolding in_order
all-order zero [] all h = sym (and-true all)
all-order zero (z ∷ zs) all h = absurd (omega arith)
all-order (suc k) [] all h = absurd (omega arith)
all-order (suc k) (l ∷ []) all h = absurd (omega arith)
all-order (suc k) (l ∷ b ∷ []) all h = absurd (omega arith)
all-order (suc k) (l ∷ b ∷ r ∷ []) all h = absurd (omega arith)
all-order (suc k) (l ∷ b ∷ r ∷ t ∷ zs) all h = all-order k zs (all && (le_z l r && le_z b t && true)) (omega arith) ∙ again all (le_z l r && le_z b t) (in_order zs)
  where
    again : (a x r : Bool) → ((a && (x && true)) && r) ≡ (a && (x && r))
    again false x r = refl
    again true true r = refl
    again true false r = refl

pub chunks-order : (zs : List ℤ) → length zs % 4 ≡ 0 → fold (λ (a : Bool) (b : List ℤ). a && in_order b) true (first_chunks 4 (length zs / 4) zs) ≡ in_order zs
chunks-order zs h = all-order (length zs / 4) zs true (omega arith)
