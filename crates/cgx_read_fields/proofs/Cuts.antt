-- A body is its fields by their offsets in the file, where their lengths fit. Assumes nothing.
use mathlib.Core.Path.{◌≡◌, refl, ap, ap₂, ◌∙◌, subst}
use mathlib.Core.Bool.{Bool}
use mathlib.Core.List.{List, [], ◌∷◌}
use Prim.Native.Nat.{ℕ, ◌+◌, ◌-◌, ◌≤◌}
use native.Mathlib.Omega.{arith}
use lib.Dec.{T}
use lib.ListN.{length, take, drop, length-take, length-drop}
use lib.Seq.{length-take-le, take-take, drop-drop}
use Rattle.std.proofs.lemmas.List.{drop-take}
use Rattle.cgx_spec.specs.Fields.{Field, fits, width, Piece, pieces, lengths_fit}
use Rattle.cgx_spec.proofs.Lists.{every-cons}
use Rattle.cgx_spec.proofs.Pieces.{full}
use Rattle.cgx_read_fields.specs.Views.{pieces_at}

room : (x : Field) (b : List ℕ) → T (fits x (length (take (width x (length b)) b))) → width x (length b) ≤ length b
room x b h = omega (arith, full x b h, length-take (width x (length b)) b)

abbrev fits_in : Piece → Bool
fits_in p = fits p.field (length p.bytes)

module _ (f : List ℕ) (at size : ℕ) (inside : at + size ≤ length f) where
  -- the bytes from byte o of the record on
  abbrev rest : ℕ → List ℕ
  rest o = take (size - o) (drop (at + o) f)

  rest-length : (o : ℕ) → o ≤ size → length (rest o) ≡ size - o
  rest-length o h = length-take-le (size - o) (drop (at + o) f) (omega (arith, length-drop (at + o) f))

  rest-take : (o w : ℕ) → w ≤ size - o → take w (rest o) ≡ take w (drop (at + o) f)
  rest-take o w h = take-take w (size - o) (drop (at + o) f) h

  rest-drop : (o w : ℕ) → w ≤ size - o → drop w (rest o) ≡ rest (o + w)
  rest-drop o w h =
      let n = size - (o + w) in
      let e : size - o ≡ w + n = omega arith in
      let q : at + o + w ≡ at + (o + w) = omega arith in
      ap (λ (k : ℕ). drop w (take k (drop (at + o) f))) e ∙ drop-take w n (drop (at + o) f) ∙ ap (take n) (drop-drop w (at + o) f ∙ ap (λ (k : ℕ). drop k f) q)

  pub cut : (xs : List Field) (o : ℕ) → o ≤ size → T (lengths_fit (pieces xs (rest o))) → pieces xs (rest o) ≡ pieces_at f at size xs o
  unfolding pieces pieces_at lengths_fit
  cut [] o h t = refl
  cut (x ∷ xs) o h t =
      let b = rest o in
      let e = every-cons fits_in (record { field = x; bytes = take (width x (length b)) b }) (pieces xs (drop (width x (length b)) b)) t in
      let n : length b ≡ size - o = rest-length o h in
      let w = width x (size - o) in
      let l : w ≤ size - o = subst (λ (k : ℕ). width x k ≤ k) n (room x b e.0) in
      let d : drop (width x (length b)) b ≡ rest (o + w) = ap (λ (k : ℕ). drop (width x k) b) n ∙ rest-drop o w l in
      ap₂ (λ (p : List ℕ) (q : List ℕ). record { field = x; bytes = p } ∷ pieces xs q) (ap (λ (k : ℕ). take (width x k) b) n ∙ rest-take o w l) d
      ∙ ap (λ (ps : List Piece). record { field = x; bytes = take w (drop (at + o) f) } ∷ ps) (cut xs (o + w) (omega arith) (subst (λ (q : List ℕ). T (lengths_fit (pieces xs q))) d e.1))
