-- A text and the zero bytes after it: one after an odd length, two after an even one. Assumes nothing.
use mathlib.Core.Path.{◌≡◌, refl, sym, ap, ◌∙◌}
use mathlib.Core.List.{List, [], ◌∷◌, ◌++◌}
use Prim.Native.Nat.{ℕ, zero, suc, ◌+◌, ◌*◌, ◌/◌, ◌%◌}
use native.Mathlib.Omega.{arith}
use native.Mathlib.Numerals.{add-one}
use lib.ListN.{length, set}
use lib.Seq.{set-set}
use Rattle.cgx_spec.specs.Strings.{padded}
use Rattle.buffers.specs.Put.{put}
use Rattle.buffers.proofs.Puts.{put_one, put-cons, put_then}

pub length-padded : (t : List ℕ) → length (padded t) ≡ length t / 2 * 2 + 2
unfolding padded
length-padded [] = refl
length-padded (a ∷ []) = refl
length-padded (a ∷ b ∷ t) = let e = length-padded t in omega arith

padded-odd : (t : List ℕ) → length t % 2 ≡ 1 → padded t ≡ t ++ (0 ∷ [])
unfolding padded
padded-odd [] h = absurd (omega arith)
padded-odd (a ∷ []) h = refl
padded-odd (a ∷ b ∷ t) h = ap (λ (x : List ℕ). a ∷ b ∷ x) (padded-odd t (omega arith))

padded-even : (t : List ℕ) → length t % 2 ≡ 0 → padded t ≡ t ++ (0 ∷ 0 ∷ [])
unfolding padded
padded-even [] h = refl
padded-even (a ∷ []) h = absurd (omega arith)
padded-even (a ∷ b ∷ t) h = ap (λ (x : List ℕ). a ∷ b ∷ x) (padded-even t (omega arith))

-- ---- x is the buffer with the text in it

module _ (l x t : List ℕ) (at : ℕ) (e : x ≡ put l at t) where
  pad-odd : length t % 2 ≡ 1 → set x (at + length t) 0 ≡ put l at (padded t)
  pad-odd h =
      put_one x (at + length t) 0
      ∙ ap (λ (y : List ℕ). put y (at + length t) (0 ∷ [])) e
      ∙ put_then l at t (0 ∷ [])
      ∙ ap (put l at) (sym (padded-odd t h))

  pad-even : length t % 2 ≡ 0 → set (set x (at + length t) 0) (at + length t + 1) 0 ≡ put l at (padded t)
  pad-even h =
      ap (λ (k : ℕ). set (set x (at + length t) 0) k 0) (add-one (at + length t))
      ∙ put_one (set x (at + length t) 0) (suc (at + length t)) 0
      ∙ put-cons x (at + length t) 0 (0 ∷ [])
      ∙ ap (λ (y : List ℕ). put y (at + length t) (0 ∷ 0 ∷ [])) e
      ∙ put_then l at t (0 ∷ 0 ∷ [])
      ∙ ap (put l at) (sym (padded-even t h))

  -- the last byte, which after an odd length is the first too
  pub pad-both : set (set x (at + length t) 0) (at + length t / 2 * 2 + 1) 0 ≡ put l at (padded t)
  pad-both = one (length t % 2) refl
    where
      one : (m : ℕ) → length t % 2 ≡ m → set (set x (at + length t) 0) (at + length t / 2 * 2 + 1) 0 ≡ put l at (padded t)
      one zero h = ap (λ (k : ℕ). set (set x (at + length t) 0) k 0) (let q : at + length t / 2 * 2 + 1 ≡ at + length t + 1 = omega arith in q) ∙ pad-even h
      one (suc zero) h =
          ap (λ (k : ℕ). set (set x (at + length t) 0) k 0) (let q : at + length t / 2 * 2 + 1 ≡ at + length t = omega arith in q)
          ∙ set-set x (at + length t) 0 0
          ∙ pad-odd h
      one (suc (suc m)) h = absurd (omega arith)
