-- The test of an index, by the count and by the bytes that are left: one law for every unit. What is answered by it. Assumes nothing.
use Rattle.std.specs.Prelude.{None, Some}
use mathlib.Core.Path.{◌≡◌, refl, sym, ap, ◌∙◌}
use mathlib.Core.Bool.{Bool, true, false}
use mathlib.Core.List.{List, []}
use Prim.Native.Nat.{ℕ, ◌+◌, ◌*◌, ◌-◌, ◌/◌, ◌≤◌, ◌<◌}
use native.Mathlib.Nat.{le-div_iff_mul-le, mul_comm, mul-add, mul-one}
use native.Mathlib.Omega.{arith}
use lib.Dec.{ltb, leb, lt→ltb, ltb→lt, le→leb, leb→le}
use lib.IntN.{ℤ}
use lib.ListN.{length, take, drop}
use Rattle.cgx_spec.proofs.Lists.{T→true, true→T, ¬T→false, and_left, and_right, and_both}
use Rattle.cgx_format_kinds.specs.declared.ItemList.{ItemList}
use Rattle.cgx_format_kinds.specs.declared.TextSpan.{TextSpan}
use Rattle.cgx_read_lists.specs.Lists.{long_at, place_of, item_inside, item_at, box_of, point_of, within, span_bytes, span_ptr}

module _ (n u : ℕ) (r : ItemList) (i : ℕ) where
  pub inside-then : item_inside n u r i ≡ true → (i < r.count) × (place_of u r i + u ≤ n)
  unfolding item_inside
  inside-then e =
      let a = ltb i r.count in
      let b = leb (place_of u r i + u) n in
      (ltb→lt i r.count (and_left a b (true→T e)), leb→le (place_of u r i + u) n (and_right a b (true→T e)))

  pub inside-when : i < r.count → place_of u r i + u ≤ n → item_inside n u r i ≡ true
  unfolding item_inside
  inside-when c h = T→true (and_both (ltb i r.count) (leb (place_of u r i + u) n) (lt→ltb i r.count c) (le→leb (place_of u r i + u) n h))

  outside-when : ((i < r.count) × (place_of u r i + u ≤ n) → ⊥) → item_inside n u r i ≡ false
  outside-when h = ¬T→false (λ t. h (inside-then (T→true t)))

  pub past-count : r.count ≤ i → item_inside n u r i ≡ false
  past-count h = outside-when (λ p. let l = p.0 in omega arith)

  pub past_end : n < r.first → item_inside n u r i ≡ false
  past_end h = outside-when (λ p. let l = p.1 in omega arith)

  -- one more than i things of u bytes
  more : (i + 1) * u ≡ u * i + u
  more = mul_comm (i + 1) u ∙ mul-add u i 1 ∙ ap (λ (k : ℕ). u * i + k) (mul-one u)

  -- by the number of whole things that are left
  pub with-room : 0 < u → i < r.count → r.first ≤ n → i < (n - r.first) / u → item_inside n u r i ≡ true
  with-room p c h l =
      let m : (i + 1) * u ≤ n - r.first = (le-div_iff_mul-le p).0 (omega arith) in
      inside-when c (omega (arith, more))

  pub without-room : 0 < u → r.first ≤ n → (n - r.first) / u ≤ i → item_inside n u r i ≡ false
  without-room p h l = outside-when (λ q.
      let e = q.1 in
      let m : i + 1 ≤ (n - r.first) / u = (le-div_iff_mul-le p).1 (omega (arith, more)) in
      omega arith)

  -- where it begins, and back
  pub place-is : item_inside n u r i ≡ true → Some (place_of u r i) ≡ item_at n u r i
  unfolding item_at
  place-is e = rw e refl

  pub no-place : item_inside n u r i ≡ false → None ≡ item_at n u r i
  unfolding item_at
  no-place e = rw e refl

  pub inside-at : {p : ℕ} → item_at n u r i ≡ Some p → (item_inside n u r i ≡ true) × (p ≡ place_of u r i)
  unfolding item_at
  inside-at {p} e = go (item_inside n u r i) refl
    where
      go : (b : Bool) → item_inside n u r i ≡ b → (item_inside n u r i ≡ true) × (p ≡ place_of u r i)
      go true q = (q, let e₁ : Some (place_of u r i) ≡ Some p = sym (rw q refl) ∙ e in cc)
      go false q = let e₁ : None ≡ Some p = sym (rw q refl) ∙ e in cc

  pub outside-at : item_at n u r i ≡ None → item_inside n u r i ≡ false
  unfolding item_at
  outside-at e = go (item_inside n u r i) refl
    where
      go : (b : Bool) → item_inside n u r i ≡ b → item_inside n u r i ≡ false
      go true q = let e₁ : Some (place_of u r i) ≡ None = sym (rw q refl) ∙ e in cc
      go false q = q

-- ---- what is inside, and what is not

module _ (f : List ℕ) (r : ItemList) (i : ℕ) where
  pub box-none : item_at (length f) 16 r i ≡ None → None ≡ box_of f r i
  unfolding box_of
  box-none e = rw (outside-at (length f) 16 r i e) refl

  pub box-some : {p : ℕ} → item_at (length f) 16 r i ≡ Some p → {left bottom right top : ℤ} → left ≡ long_at f p → bottom ≡ long_at f (p + 4)
      → right ≡ long_at f (p + 8) → top ≡ long_at f (p + 12) → Some (record { left = left; bottom = bottom; right = right; top = top }) ≡ box_of f r i
  unfolding box_of
  box-some e el eb er et = let h = inside-at (length f) 16 r i e in rw h.0 (cc)

  pub point-none : item_at (length f) 8 r i ≡ None → None ≡ point_of f r i
  unfolding point_of
  point-none e = rw (outside-at (length f) 8 r i e) refl

  pub point-some : {p : ℕ} → item_at (length f) 8 r i ≡ Some p → {x y : ℤ} → x ≡ long_at f p → y ≡ long_at f (p + 4) → Some (record { x = x; y = y }) ≡ point_of f r i
  unfolding point_of
  point-some e ex ey = let h = inside-at (length f) 8 r i e in rw h.0 (cc)

-- ---- texts

module _ (f : List ℕ) (s : TextSpan) where
  pub text_in : within (length f) s ≡ true → s.at + s.len ≤ length f
  unfolding within
  text_in e = leb→le (s.at + s.len) (length f) (true→T e)

  -- with the pointer of the part, where the file's is p
  pub no_text : (p : ℕ × ℕ) → within (length f) s ≡ false → ([] ≡ span_bytes f s) × (◌≡◌ {A = ℕ × ℕ} (p.0, 0 + p.1) (span_ptr p (length f) s))
  unfolding span_bytes span_ptr
  no_text p e = let q : 0 + p.1 ≡ p.1 = omega arith in (rw e refl, rw (e, q) refl)

  pub a_text : (p : ℕ × ℕ) → within (length f) s ≡ true → (take (s.at + s.len - s.at) (drop s.at f) ≡ span_bytes f s) × (◌≡◌ {A = ℕ × ℕ} (p.0, s.at + p.1) (span_ptr p (length f) s))
  unfolding span_bytes span_ptr
  a_text p e =
      let q : s.at + s.len - s.at ≡ s.len = omega arith in
      let w : s.at + p.1 ≡ p.1 + s.at = omega arith in
      (rw (e, q) refl, rw (e, w) refl)
