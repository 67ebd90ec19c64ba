-- A part of a list, written out element by element, for a part of any length. Assumes nothing.
use mathlib.Core.Path.{◌≡◌, sym, ap, ◌∙◌, refl}
use mathlib.Core.List.{List, [], ◌∷◌}
use Prim.Native.Nat.{ℕ, zero, suc, ◌+◌, ◌≤◌}
use native.Mathlib.Nat.{add-zero}
use native.Mathlib.Omega.{arith}
use lib.ListN.{length, take, drop, get_or}
use lib.Seq.{drop-cons}

-- the n elements of s from at + i on
abbrev pub cells : List ℕ → ℕ → ℕ → ℕ → List ℕ
cells s at i zero = []
cells s at i (suc n) = get_or s (at + i) 0 ∷ cells s at (suc i) n

part-cells : (s : List ℕ) (at i n : ℕ) → at + i + n ≤ length s → take n (drop (at + i) s) ≡ cells s at i n
part-cells s at i zero h = refl
part-cells s at i (suc n) h =
    let q : at + suc i ≡ suc (at + i) = omega arith in
    ap (λ (l : List ℕ). take (suc n) l) (drop-cons s (at + i) 0 (omega arith))
    ∙ ap (λ (k : ℕ). get_or s (at + i) 0 ∷ take n (drop k s)) (sym q)
    ∙ ap (λ (l : List ℕ). get_or s (at + i) 0 ∷ l) (part-cells s at (suc i) n (omega arith))

-- the part of suc n elements from at on, at + 0 written as at
pub part : (s : List ℕ) (at n : ℕ) → at + suc n ≤ length s → get_or s at 0 ∷ cells s at 1 n ≡ take (suc n) (drop at s)
part s at n h =
    sym
    (ap (λ (k : ℕ). take (suc n) (drop k s)) (sym (add-zero at))
    ∙ part-cells s at 0 (suc n) (omega arith)
    ∙ ap (λ (k : ℕ). get_or s k 0 ∷ cells s at 1 n) (add-zero at))
