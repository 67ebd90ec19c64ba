-- The cases of `cut` at an offset of a file, by the header there. Assumes nothing.
use Rattle.std.specs.Prelude.{Err, Ok, Result}
use mathlib.Core.Path.{◌≡◌, refl, sym, ap, ◌∙◌, subst}
use mathlib.Core.Bool.{Bool, false, cond, ◌||◌}
use mathlib.Core.List.{List, [], ◌∷◌}
use Prim.Native.Nat.{ℕ, ◌+◌, ◌*◌, ◌-◌, ◌%◌, ◌≤◌, ◌<◌}
use native.Mathlib.Omega.{arith}
use native.Mathlib.Nat.{add-zero}
use borrow.Author.Tests.{lt-ltb, le-ltb, eq-eqb, ne_eqb}
use lib.Dec.{ltb, eqb}
use lib.ListN.{length, drop, get_or, length-drop}
use lib.Seq.{drop-drop, get_or-drop, length-take-le}
use Rattle.cgx_spec.specs.Records.{size}
use Rattle.cgx_spec.specs.Files.{Cut, bad, found, cut, cut_body}
use Rattle.cgx_spec.specs.Walking.{size_at, rec_at, Held}
use Rattle.cgx_format_headers.specs.declared.Header.{Header}
use Rattle.cgx_format_headers.specs.Headers.{header_of, cut_meant, HeaderAt, HeadIn, Heads}
use Rattle.cgx_format_headers.proofs.HeaderLaws.{size-says}
use Rattle.cgx_spec.specs.declared.FileRefusal.{FileRefusal}

-- ---- cut

cut-none : (l : List ℕ) → length l ≡ 0 → cut l ≡ bad 3
unfolding cut
cut-none [] h = refl
cut-none (a ∷ l) h = absurd (omega arith)

cut-few : (l : List ℕ) → 0 < length l → length l < 4 → cut l ≡ bad 4
unfolding cut
cut-few [] h k = absurd (omega arith)
cut-few (a ∷ []) h k = refl
cut-few (a ∷ b ∷ []) h k = refl
cut-few (a ∷ b ∷ c ∷ []) h k = refl
cut-few (a ∷ b ∷ c ∷ d ∷ l) h k = absurd (omega arith)

cut-four : (l : List ℕ) → 4 ≤ length l → cut l ≡ cut_body (get_or l 0 0 * 256 + get_or l 1 0) (get_or l 2 0) (get_or l 3 0) (drop 4 l)
unfolding cut
cut-four [] h = absurd (omega arith)
cut-four (a ∷ []) h = absurd (omega arith)
cut-four (a ∷ b ∷ []) h = absurd (omega arith)
cut-four (a ∷ b ∷ c ∷ []) h = absurd (omega arith)
cut-four (a ∷ b ∷ c ∷ d ∷ l) h = refl

module _ (f : List ℕ) (at : ℕ) where
  left : length (drop at f) ≡ length f - at
  left = length-drop at f

  pub head-3 : length f - at ≡ 0 → Heads f at (Err (record { number = 3; at = at }))
  unfolding cut_meant
  head-3 h = record { cuts = cut-none (drop at f) (left ∙ h); inside = (omega arith, refl) }

  pub head-4 : (length f - at ≡ 0 → ⊥) → length f - at < 4 → Heads f at (Err (record { number = 4; at = at }))
  unfolding cut_meant
  head-4 h k = record { cuts = cut-few (drop at f) (omega (arith, left)) (omega (arith, left)); inside = (omega arith, refl) }

  -- by the size of the header there
  module _ {h : Header} (i : at + 4 ≤ length f) (r : h ≡ header_of f at) where
    abbrev n : ℕ
    n = h.size

    e : n ≡ size_at f at
    e = size-says f at r

    first : get_or (drop at f) 0 0 ≡ get_or f at 0
    first = get_or-drop at f 0 0 ∙ ap (λ (k : ℕ). get_or f k 0) (add-zero at)

    cut_on : cut (drop at f) ≡ cut_body n (get_or f (at + 2) 0) (get_or f (at + 3) 0) (drop (at + 4) f)
    cut_on =
        cut-four (drop at f) (omega (arith, left))
        ∙ ap (λ (x : ℕ). cut_body (x * 256 + get_or (drop at f) 1 0) (get_or (drop at f) 2 0) (get_or (drop at f) 3 0) (drop 4 (drop at f))) first
        ∙ ap (λ (x : ℕ). cut_body (get_or f at 0 * 256 + x) (get_or (drop at f) 2 0) (get_or (drop at f) 3 0) (drop 4 (drop at f))) (get_or-drop at f 1 0)
        ∙ ap (λ (x : ℕ). cut_body x (get_or (drop at f) 2 0) (get_or (drop at f) 3 0) (drop 4 (drop at f))) (sym e)
        ∙ ap (λ (x : ℕ). cut_body n x (get_or (drop at f) 3 0) (drop 4 (drop at f))) (get_or-drop at f 2 0)
        ∙ ap (λ (x : ℕ). cut_body n (get_or f (at + 2) 0) x (drop 4 (drop at f))) (get_or-drop at f 3 0)
        ∙ ap (cut_body n (get_or f (at + 2) 0) (get_or f (at + 3) 0)) (drop-drop 4 at f)

    abbrev chosen : Bool → Bool → Bool → Cut
    chosen x y z = cond (x || y) (bad 5) (cond z (bad 4) (found (rec_at f at n) (drop (n - 4) (drop (at + 4) f))))

    by_tests : cut (drop at f) ≡ chosen (eqb (n % 2) 1) (ltb n 4) (ltb (length (drop (at + 4) f)) (n - 4))
    unfolding cut_body rec_at
    by_tests = cut_on

    pub head-odd : n % 2 ≡ 1 → Heads f at (Err (record { number = 5; at = at }))
    unfolding cut_meant
    head-odd q = record { cuts = by_tests ∙ ap (λ (x : Bool). chosen x (ltb n 4) (ltb (length (drop (at + 4) f)) (n - 4))) (eq-eqb (n % 2) 1 q); inside = (omega arith, refl) }

    module _ (q : n % 2 ≡ 1 → ⊥) where
      past-5 : cut (drop at f) ≡ chosen false (ltb n 4) (ltb (length (drop (at + 4) f)) (n - 4))
      past-5 = by_tests ∙ ap (λ (x : Bool). chosen x (ltb n 4) (ltb (length (drop (at + 4) f)) (n - 4))) (ne_eqb (n % 2) 1 q)

      pub head_small : n < 4 → Heads f at (Err (record { number = 5; at = at }))
      unfolding cut_meant
      head_small l = record { cuts = past-5 ∙ ap (λ (x : Bool). chosen false x (ltb (length (drop (at + 4) f)) (n - 4))) (lt-ltb n 4 l); inside = (omega arith, refl) }

      pub head-long : 4 ≤ n → length f - at < n → Heads f at (Err (record { number = 4; at = at }))
      unfolding cut_meant
      head-long l k =
          record {
            cuts = past-5 ∙ ap (λ (x : Bool). chosen false x (ltb (length (drop (at + 4) f)) (n - 4))) (le-ltb n 4 l)
                ∙ ap (chosen false false) (lt-ltb (length (drop (at + 4) f)) (n - 4) (omega (arith, length-drop (at + 4) f)));
            inside = (omega arith, refl);
          }

      pub head-good : 4 ≤ n → n ≤ length f - at → n < 65536 → Heads f at (Ok h)
      unfolding cut_meant
      head-good l k m =
          let z : at + 4 + (n - 4) ≡ at + n = omega arith in
          record {
            cuts = past-5 ∙ ap (λ (x : Bool). chosen false x (ltb (length (drop (at + 4) f)) (n - 4))) (le-ltb n 4 l)
                ∙ ap (chosen false false) (le-ltb (length (drop (at + 4) f)) (n - 4) (omega (arith, length-drop (at + 4) f)))
                ∙ ap (found (rec_at f at n)) (drop-drop (n - 4) (at + 4) f ∙ ap (λ (x : ℕ). drop x f) z);
            inside = record { held = record { least = l; most = m; even = omega arith; inside = omega arith }; read = r };
          }

-- ---- what an answer says

pub header-in : (f : List ℕ) (at : ℕ) {r : Result Header FileRefusal} {h : Header} → Heads f at r → r ≡ Ok h → HeaderAt f at h
header-in f at d q = subst (HeadIn f at) q d.inside

-- its record's body
pub held-size : (f : List ℕ) (at : ℕ) {n : ℕ} → Held f at n → size (rec_at f at n) ≡ n
unfolding rec_at
held-size f at {n} h =
    let a = h.inside in
    let b = h.least in
    let l = length-take-le (n - 4) (drop (at + 4) f) (omega (arith, length-drop (at + 4) f)) in
    omega arith
