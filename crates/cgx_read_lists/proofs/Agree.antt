-- What is read by an index or a span is what a view says: in a list that lies inside the file, the i-th box is numbers 4 i to 4 i + 3 of the list's, the
-- i-th point numbers 2 i and 2 i + 1, and the bytes of a span inside the file are its text. Assumes nothing.
use Rattle.std.specs.Prelude.{Some}
use mathlib.Core.Path.{◌≡◌, refl, sym, ap, ◌∙◌}
use mathlib.Core.Bool.{true}
use mathlib.Core.List.{List, [], ◌∷◌}
use Prim.Native.Nat.{ℕ, zero, suc, ◌+◌, ◌*◌, ◌-◌, ◌≤◌, ◌<◌}
use native.Mathlib.Omega.{arith}
use lib.IntN.{pos}
use lib.ListN.{length, take, drop, get_or, length-drop}
use lib.Seq.{length-take-le, take-take, drop-drop}
use Rattle.std.proofs.lemmas.List.{drop-take}
use Rattle.cgx_spec.specs.Numbers.{long_of, longs_of}
use Rattle.cgx_spec.specs.Fields.{text}
use Rattle.cgx_format_kinds.specs.declared.ItemList.{ItemList}
use Rattle.cgx_format_kinds.specs.declared.TextSpan.{TextSpan}
use Rattle.cgx_format_kinds.specs.Meant.{span_text, list_numbers}
use Rattle.cgx_read_lists.specs.Lists.{long_at, place_of, box_of, point_of, within, span_bytes}
use Rattle.cgx_read_lists.specs.Demand.{nth}
use Rattle.cgx_read_lists.proofs.ItemsInside.{inside-when, place-is, box-some, point-some}

-- the j-th long
longs-at : (b : List ℕ) (j : ℕ) → 4 * j + 4 ≤ length b → get_or (longs_of b) j (pos 0) ≡ long_of (take 4 (drop (4 * j) b))
unfolding longs_of
longs-at [] j h = absurd (omega arith)
longs-at (a ∷ []) j h = absurd (omega arith)
longs-at (a ∷ b ∷ []) j h = absurd (omega arith)
longs-at (a ∷ b ∷ c ∷ []) j h = absurd (omega arith)
longs-at (a ∷ b ∷ c ∷ d ∷ bs) zero h = refl
longs-at (a ∷ b ∷ c ∷ d ∷ bs) (suc j) h =
    let q : suc (suc (suc (suc (4 * j)))) ≡ 4 * suc j = omega arith in
    longs-at bs j (omega arith) ∙ ap (λ (k : ℕ). long_of (take 4 (drop k (a ∷ b ∷ c ∷ d ∷ bs)))) q

-- a part of a part
inner : (l : List ℕ) (m n w : ℕ) → m + w ≤ n → take w (drop m (take n l)) ≡ take w (drop m l)
inner l m n w h =
    let e : n ≡ m + (n - m) = omega arith in
    ap (λ (i : ℕ). take w (drop m (take i l))) e ∙ ap (take w) (drop-take m (n - m) l) ∙ take-take w (n - m) (drop m l) (omega arith)

module _ (u : ℕ) (f : List ℕ) (r : ItemList) (inside : r.first + u * r.count ≤ length f) where
  nth-long : (j at : ℕ) → at ≡ r.first + 4 * j → 4 * j + 4 ≤ u * r.count → nth (list_numbers u f r) j ≡ long_at f at
  unfolding list_numbers
  nth-long j at e h =
      let l = drop r.first f in
      let n : u * r.count ≤ length l = omega (arith, length-drop r.first f) in
      longs-at (take (u * r.count) l) j (omega (arith, length-take-le (u * r.count) l n)) ∙ ap long_of (inner l (4 * j) (u * r.count) 4 h ∙ ap (take 4) (drop-drop (4 * j) r.first f))
      ∙ ap (λ (k : ℕ). long_at f k) (sym e)

module _ (f : List ℕ) (r : ItemList) (i : ℕ) (c : i < r.count) where
  pub box-numbers : r.first + 16 * r.count ≤ length f
      → box_of f r i ≡ Some (record { left = nth (list_numbers 16 f r) (4 * i); bottom = nth (list_numbers 16 f r) (4 * i + 1); right = nth (list_numbers 16 f r) (4 * i + 2); top = nth (list_numbers 16 f r) (4 * i + 3) })
  box-numbers h =
      sym
      (box-some f r i (sym (place-is (length f) 16 r i (inside-when (length f) 16 r i c (omega arith)))) (nth-long 16 f r h (4 * i) (place_of 16 r i) (omega arith) (omega arith))
      (nth-long 16 f r h (4 * i + 1) (place_of 16 r i + 4) (omega arith) (omega arith))
      (nth-long 16 f r h (4 * i + 2) (place_of 16 r i + 8) (omega arith) (omega arith))
      (nth-long 16 f r h (4 * i + 3) (place_of 16 r i + 12) (omega arith) (omega arith)))

  pub point-numbers : r.first + 8 * r.count ≤ length f → point_of f r i ≡ Some (record { x = nth (list_numbers 8 f r) (2 * i); y = nth (list_numbers 8 f r) (2 * i + 1) })
  point-numbers h =
      sym
      (point-some f r i (sym (place-is (length f) 8 r i (inside-when (length f) 8 r i c (omega arith)))) (nth-long 8 f r h (2 * i) (place_of 8 r i) (omega arith) (omega arith))
      (nth-long 8 f r h (2 * i + 1) (place_of 8 r i + 4) (omega arith) (omega arith)))

pub span-text : (f : List ℕ) (s : TextSpan) → within (length f) s ≡ true → span_text f s ≡ text (span_bytes f s)
unfolding span_text span_bytes
span-text f s e = rw e refl
