-- The laws of a file's first four bytes. Assumes nothing.
use Rattle.std.specs.Prelude.{Ok}
use mathlib.Core.Path.{◌≡◌, refl}
use mathlib.Core.Bool.{Bool, true, false, cond, ◌&&◌}
use mathlib.Core.List.{List, [], ◌∷◌}
use Prim.Native.Nat.{ℕ, zero, suc, ◌≤◌, ◌<◌}
use native.Mathlib.Omega.{arith}
use borrow.Author.Tests.{eq-eqb, ne_eqb}
use lib.Dec.{eqb}
use lib.ListN.{length, get_or}
use Rattle.cgx_spec.specs.Files.{opening}
use Rattle.cgx_format_headers.specs.Headers.{opened}

pub opening-short : (f : List ℕ) → length f < 4 → 1 ≡ opening f
unfolding opening
opening-short [] h = refl
opening-short (a ∷ []) h = refl
opening-short (a ∷ b ∷ []) h = refl
opening-short (a ∷ b ∷ c ∷ []) h = refl
opening-short (a ∷ b ∷ c ∷ d ∷ l) h = absurd (omega arith)

pub opening-long : (f : List ℕ) → opening f ≡ 0 → 4 ≤ length f
unfolding opening
opening-long [] h = absurd (omega arith)
opening-long (a ∷ []) h = absurd (omega arith)
opening-long (a ∷ b ∷ []) h = absurd (omega arith)
opening-long (a ∷ b ∷ c ∷ []) h = absurd (omega arith)
opening-long (a ∷ b ∷ c ∷ d ∷ l) h = omega arith

-- by the four tests
abbrev first-four : Bool → Bool → Bool → Bool → ℕ
first-four x y z w = cond (x && y && z) (cond w 0 2) 1

opening-is : (f : List ℕ) → 4 ≤ length f → first-four (eqb (get_or f 0 0) 99) (eqb (get_or f 1 0) 103) (eqb (get_or f 2 0) 120) (eqb (get_or f 3 0) 0) ≡ opening f
unfolding opening
opening-is [] k = absurd (omega arith)
opening-is (a ∷ []) k = absurd (omega arith)
opening-is (a ∷ b ∷ []) k = absurd (omega arith)
opening-is (a ∷ b ∷ c ∷ []) k = absurd (omega arith)
opening-is (a ∷ b ∷ c ∷ d ∷ l) k = refl

-- byte by byte, as far as the bytes are right
module _ (f : List ℕ) (h : 4 ≤ length f) where
  opening-by : (x y z w : Bool) → eqb (get_or f 0 0) 99 ≡ x → eqb (get_or f 1 0) 103 ≡ y → eqb (get_or f 2 0) 120 ≡ z → eqb (get_or f 3 0) 0 ≡ w → first-four x y z w ≡ opening f
  opening-by x y z w a b c d = cc (opening-is f h)

  pub not-c : (get_or f 0 0 ≡ 99 → ⊥) → 1 ≡ opening f
  not-c q = opening-by false _ _ _ (ne_eqb _ 99 q) refl refl refl

  module _ (c : get_or f 0 0 ≡ 99) where
    pub not-g : (get_or f 1 0 ≡ 103 → ⊥) → 1 ≡ opening f
    not-g q = opening-by true false _ _ (eq-eqb _ 99 c) (ne_eqb _ 103 q) refl refl

    module _ (g : get_or f 1 0 ≡ 103) where
      pub not-x : (get_or f 2 0 ≡ 120 → ⊥) → 1 ≡ opening f
      not-x q = opening-by true true false _ (eq-eqb _ 99 c) (eq-eqb _ 103 g) (ne_eqb _ 120 q) refl

      module _ (x : get_or f 2 0 ≡ 120) where
        pub not-level-0 : (get_or f 3 0 ≡ 0 → ⊥) → 2 ≡ opening f
        not-level-0 q = opening-by true true true false (eq-eqb _ 99 c) (eq-eqb _ 103 g) (eq-eqb _ 120 x) (ne_eqb _ 0 q)

        pub well-begun : get_or f 3 0 ≡ 0 → 0 ≡ opening f
        well-begun q = opening-by true true true true (eq-eqb _ 99 c) (eq-eqb _ 103 g) (eq-eqb _ 120 x) (eq-eqb _ 0 q)

-- a file of which nothing is said begins well
pub opening-good : (f : List ℕ) {u : Unit {0}} → Ok u ≡ opened (opening f) → opening f ≡ 0
opening-good f {u} q = go (opening f) q
  where
    go : (n : ℕ) → Ok u ≡ opened n → n ≡ 0
    go zero z = refl
    go (suc n) z = absurd (let x : ◌≡◌ {A = ℕ} 0 1 = cc in omega arith)
