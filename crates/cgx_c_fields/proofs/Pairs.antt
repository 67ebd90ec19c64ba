-- The bits of two longs are their word in a view. Assumes nothing.
use mathlib.Core.Path.{◌≡◌, sym, ap, ap₂, ◌∙◌}
use mathlib.Core.List.{List, [], ◌∷◌}
use Prim.Native.Nat.{ℕ, ◌+◌, ◌*◌, ◌^◌, ◌<◌, ◌≤◌}
use native.Mathlib.Omega.{arith}
use lib.ListN.{length, take, drop, get_or, length-drop}
use lib.Seq.{length-take-le}
use Rattle.cgx_spec.specs.Numbers.{Bytes, number, long_of}
use Rattle.cgx_spec.proofs.Lists.{Bytes-take, Bytes-drop}
use Rattle.cgx_spec.proofs.NumberLaws.{number_bound, untwos-twos}
use Rattle.numbers.proofs.Parts.{part}
use Rattle.cgx_c_views.specs.ViewWords.{long_bits, pair_word}
use Rattle.cgx_c_fields.specs.Fill.{pair_at}

bits_are : (f : List ℕ) (at : ℕ) → Bytes f → at + 4 ≤ length f → number (take 4 (drop at f)) ≡ long_bits (long_of (take 4 (drop at f)))
unfolding long_of
bits_are f at h l =
    let b : number (take 4 (drop at f)) < 2 ^ 32 = number_bound (take 4 (drop at f)) 4 (Bytes-take 4 (drop at f) (Bytes-drop at f h)) (length-take-le 4 (drop at f) (omega (arith, length-drop at f))) in
    sym (untwos-twos (2 ^ 31) (number (take 4 (drop at f))) b)

-- as code reads them
pub pair_is : (f : List ℕ) (at : ℕ) → Bytes f → at + 8 ≤ length f → {x y : ℕ}
    → x ≡ number (get_or f at 0 ∷ get_or f (at + 1) 0 ∷ get_or f (at + 2) 0 ∷ get_or f (at + 3) 0 ∷ [])
    → y ≡ number (get_or f (at + 4) 0 ∷ get_or f (at + 5) 0 ∷ get_or f (at + 6) 0 ∷ get_or f (at + 7) 0 ∷ [])
    → x + 2 ^ 32 * y ≡ pair_at f at
unfolding pair_word
pair_is f at h l ex ey =
    let a : at + 5 ≡ at + 4 + 1 = omega arith in
    let b : at + 6 ≡ at + 4 + 2 = omega arith in
    let c : at + 7 ≡ at + 4 + 3 = omega arith in
    ap₂ (λ (m n : ℕ). m + 2 ^ 32 * n)
    (ex ∙ ap number (part f at 3 (omega arith)) ∙ bits_are f at h (omega arith))
    (ey ∙ (λ i. number (get_or f (at + 4) 0 ∷ get_or f (a i) 0 ∷ get_or f (b i) 0 ∷ get_or f (c i) 0 ∷ [])) ∙ ap number (part f (at + 4) 3 (omega arith)) ∙ bits_are f (at + 4) h (omega arith))
