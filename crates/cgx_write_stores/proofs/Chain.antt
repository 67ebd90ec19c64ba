-- Stores one after the other, as a chain of calls gives them. Assumes nothing.
use mathlib.Core.Path.{◌≡◌, refl, sym, ap, ◌∙◌}
use mathlib.Core.List.{List, [], ◌∷◌, ◌++◌}
use Prim.Native.Nat.{ℕ, ◌+◌}
use native.Mathlib.Omega.{arith}
use lib.IntN.{ℤ, pos}
use lib.ListN.{length, get_or}
use Rattle.cgx_spec.specs.Numbers.{short_bytes, long_bytes}
use Rattle.buffers.specs.Put.{put, longs_bytes}
use Rattle.buffers.proofs.Puts.{put_next}

-- a store into what the stores before it left
pub onto : (at : ℕ) (vs : List ℕ) {l m out : List ℕ} → out ≡ put m at vs → m ≡ l → out ≡ put l at vs
onto at vs e q = e ∙ ap (λ (x : List ℕ). put x at vs) q

-- the two numbers of a LAYER, stored together, are stored one after the other
pub two-shorts : (l : List ℕ) (at : ℕ) (x y : ℤ) → put l (at + 4) (short_bytes x ++ short_bytes y) ≡ put (put l (at + 4) (short_bytes x)) (at + 6) (short_bytes y)
unfolding short_bytes
two-shorts l at x y = sym (put_next l (at + 4) 2 (at + 6) (short_bytes x) (short_bytes y) refl (omega arith))

-- four longs, one after the other
pub four-longs : (l : List ℕ) (at : ℕ) (zs : List ℤ) → length zs ≡ 4
    → put (put (put (put l at (long_bytes (get_or zs 0 (pos 0)))) (at + 4) (long_bytes (get_or zs 1 (pos 0)))) (at + 8) (long_bytes (get_or zs 2 (pos 0)))) (at + 12) (long_bytes (get_or zs 3 (pos 0))) ≡ put l at (longs_bytes zs)
unfolding longs_bytes long_bytes
four-longs l at [] h = absurd (omega arith)
four-longs l at (a ∷ []) h = absurd (omega arith)
four-longs l at (a ∷ b ∷ []) h = absurd (omega arith)
four-longs l at (a ∷ b ∷ c ∷ []) h = absurd (omega arith)
four-longs l at (a ∷ b ∷ c ∷ d ∷ []) h =
    let w = long_bytes a in
    let x = long_bytes b in
    let y = long_bytes c in
    let z = long_bytes d in
    ap (λ (k : List ℕ). put (put k (at + 8) y) (at + 12) z) (put_next l at 4 (at + 4) w x refl refl)
    ∙ ap (λ (k : List ℕ). put k (at + 12) z) (put_next l at 8 (at + 8) (w ++ x) y refl refl)
    ∙ put_next l at 12 (at + 12) (w ++ x ++ y) z refl refl
four-longs l at (a ∷ b ∷ c ∷ d ∷ e ∷ zs) h = absurd (omega arith)
