-- Bytes with no zero, by pieces: the loop over these, the lists that they cover, and the lowest byte of one. Assumes nothing.
use mathlib.Core.Path.{◌≡◌, refl, sym, ap, ap₂, ◌∙◌}
use mathlib.Core.Bool.{Bool, true, false, not, ◌&&◌}
use mathlib.Core.List.{List, [], ◌∷◌, ◌++◌}
use Prim.Native.Nat.{ℕ, zero, suc, ◌+◌, ◌-◌, ◌*◌, ◌/◌, ◌≤◌, ◌<◌, min}
use native.Mathlib.Numerals.{add-one}
use native.Mathlib.Omega.{arith}
use Rattle.std.proofs.Math.Bool.{and-false}
use Rattle.std.proofs.Math.Nat.{min-zero, zero-min}
use borrow.Author.Tests.{ne_eqb}
use lib.Dec.{eqb}
use lib.ListN.{length, take, drop, get_or, length-drop, take-append-drop}
use lib.Seq.{drop-cons, drop-length, take-add, take-take, take-length, length-take-le}
use Rattle.std.specs.List.{fold}
use Rattle.std.specs.Simd.{first_chunks}
use Rattle.cgx_spec.proofs.Lists.{and-true, and_assoc}
use Rattle.cgx_format_fields.specs.Zeros.{no_zero}

-- What is found in pieces: whether each so far has no zero.
abbrev pub pieces : Bool → List (List ℕ) → Bool
pieces = fold (λ (none : Bool) (b : List ℕ). none && no_zero b)

-- Once a piece has a zero, it stays so.
zero-found : (xs : List (List ℕ)) → pieces false xs ≡ false
zero-found [] = refl
zero-found (x ∷ xs) = zero-found xs

-- No piece before i has a zero, and the i-th has one.
pub zero-at : (xs : List (List ℕ)) (i : ℕ) → i < length xs → pieces true (drop i xs) ≡ pieces true xs → no_zero (get_or xs i []) ≡ false → false ≡ pieces true xs
zero-at xs i l e f =
    sym (zero-found (drop (suc i) xs)) ∙ ap (λ (v : Bool). pieces v (drop (suc i) xs)) (sym f) ∙ sym (ap (pieces true) (drop-cons xs i [] l)) ∙ e

-- ---- pieces of 512 bytes, and lists that overlap

no-zero-append : (x y : List ℕ) → no_zero (x ++ y) ≡ (no_zero x && no_zero y)
unfolding no_zero
no-zero-append [] y = refl
no-zero-append (a ∷ x) y = ap (λ (v : Bool). not (eqb a 0) && v) (no-zero-append x y) ∙ and_assoc (not (eqb a 0)) (no_zero x) (no_zero y)

no-zero-further : (b : List ℕ) (at n : ℕ) → no_zero (take (at + n) b) ≡ (no_zero (take at b) && no_zero (take n (drop at b)))
no-zero-further b at n = ap no_zero (take-add at n b) ∙ no-zero-append (take at b) (take n (drop at b))

in-pieces : (k : ℕ) (b : List ℕ) (none : Bool) → k * 512 ≤ length b → pieces none (first_chunks 512 k b) ≡ (none && no_zero (take (k * 512) b))
unfolding no_zero
in-pieces zero b none h = sym (and-true none)
in-pieces (suc k) b none h =
    let e : 512 + k * 512 ≡ suc k * 512 = omega arith in
    in-pieces k (drop 512 b) (none && no_zero (take 512 b)) (omega (arith, length-drop 512 b))
    ∙ sym (and_assoc none (no_zero (take 512 b)) (no_zero (take (k * 512) (drop 512 b))))
    ∙ ap (λ (v : Bool). none && v) (sym (no-zero-further b 512 (k * 512)) ∙ ap (λ (i : ℕ). no_zero (take i b)) e)

halves : (b : List ℕ) (at : ℕ) → (no_zero (take at b) && no_zero (drop at b)) ≡ no_zero b
halves b at = sym (no-zero-append (take at b) (drop at b)) ∙ ap no_zero (take-append-drop at b)

twice : (a b c : Bool) → (a && b && (b && c)) ≡ (a && (b && c))
twice true true c = refl
twice true false c = refl
twice false b c = refl

-- all before `to`, and all from `from` on
cover : (b : List ℕ) (to from : ℕ) → from ≤ to → (no_zero (take to b) && no_zero (drop from b)) ≡ no_zero b
cover b to from h =
    let n = to - from in
    let d = drop from b in
    let e : to ≡ from + n = omega arith in
    ap (λ (k : ℕ). no_zero (take k b) && no_zero d) e
    ∙ ap₂ ◌&&◌ (no-zero-further b from n) (sym (halves d n))
    ∙ twice (no_zero (take from b)) (no_zero (take n d)) (no_zero (drop n d))
    ∙ ap (λ (v : Bool). no_zero (take from b) && v) (halves d n)
    ∙ halves b from

-- The pieces of all but the last byte, and the last one. The slices are as the checker has them.
pub no-zero-pieces : (b x y : List ℕ) {r s : Bool} → 512 ≤ length b → x ≡ take (length b - 1) b → y ≡ take (length b - (length b - 512)) (drop (length b - 512) b)
    → r ≡ pieces true (first_chunks 512 (length x / 512) x) → s ≡ pieces true (first_chunks 512 (length y / 512) y) → (r && s) ≡ no_zero b
no-zero-pieces b x y h ex ey er es =
    let from = length b - 512 in
    let m = length x / 512 * 512 in
    let lx : length x ≡ length b - 1 = ap length ex ∙ length-take-le (length b - 1) b (omega arith) in
    let ld : length (drop from b) ≡ length b - from = length-drop from b in
    let ly : length y ≡ length b - from = ap length ey ∙ length-take-le (length b - from) (drop from b) (omega (arith, ld)) in
    let e : length y / 512 * 512 ≡ length y = omega arith in
    let first = er ∙ in-pieces (length x / 512) x true (omega arith) ∙ ap no_zero (ap (take m) ex ∙ take-take m (length b - 1) b (omega (arith, lx))) in
    let last = es ∙ in-pieces (length y / 512) y true (omega arith) ∙ ap no_zero (ap (λ (i : ℕ). take i y) e ∙ take-length y ∙ ey ∙ ap (λ (i : ℕ). take i (drop from b)) (sym ld) ∙ take-length (drop from b)) in
    ap₂ ◌&&◌ first last ∙ cover b m from (omega (arith, lx))

-- ---- the lowest byte: what is found so far, and what the rest says

module _ (b : List ℕ) (i : ℕ) (low : ℕ) (q : no_zero b ≡ (not (eqb low 0) && no_zero (drop i b))) where
  pub low-on : i < length b → no_zero b ≡ (not (eqb (min low (get_or b i 0)) 0) && no_zero (drop (i + 1) b))
  unfolding no_zero
  low-on h =
      q ∙ ap (λ (l : List ℕ). not (eqb low 0) && no_zero l) (drop-cons b i 0 h)
      ∙ and_assoc (not (eqb low 0)) (not (eqb (get_or b i 0) 0)) (no_zero (drop (suc i) b))
      ∙ ap₂ (λ (v : Bool) (k : ℕ). v && no_zero (drop k b)) (both low (get_or b i 0)) (sym (add-one i))
    where
      both : (x y : ℕ) → (not (eqb x 0) && not (eqb y 0)) ≡ not (eqb (min x y) 0)
      both zero y = ap (λ (n : ℕ). not (eqb n 0)) (sym (zero-min y))
      both (suc x) zero = and-false (not (eqb (suc x) 0)) ∙ ap (λ (n : ℕ). not (eqb n 0)) (sym (min-zero (suc x)))
      both (suc x) (suc y) =
          let m : min (suc x) (suc y) ≡ 0 → ⊥ = λ e. omega (arith, e) in
          ap₂ (λ (a b : Bool). not a && not b) (ne_eqb (suc x) 0 (λ e. omega (arith, e))) (ne_eqb (suc y) 0 (λ e. omega (arith, e))) ∙ sym (ap not (ne_eqb (min (suc x) (suc y)) 0 m))

  pub low-done : length b ≤ i → i ≤ length b → not (eqb low 0) ≡ no_zero b
  unfolding no_zero
  low-done h k =
      let e : i ≡ length b = omega arith in
      sym (q ∙ ap (λ (m : ℕ). not (eqb low 0) && no_zero (drop m b)) e ∙ ap (λ (l : List ℕ). not (eqb low 0) && no_zero l) (drop-length b) ∙ and-true (not (eqb low 0)))
