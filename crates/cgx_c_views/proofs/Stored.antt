-- What is stored in the code's order are the words of a kind, and of a view. Assumes nothing.
use Rattle.std.specs.Prelude.{None, Option, Some}
use mathlib.Core.Path.{◌≡◌, refl, ap, ◌∙◌}
use mathlib.Core.List.{List, [], ◌∷◌, ◌++◌}
use Prim.Native.Nat.{ℕ, suc, ◌+◌, ◌<◌, ◌≤◌}
use native.Mathlib.Omega.{arith}
use native.Mathlib.Numerals.{add-one}
use lib.IntN.{ℤ}
use lib.ListN.{length, set}
use lib.Seq.{set_comm}
use Rattle.cgx_spec.specs.declared.Kind.{Kind}
use Rattle.cgx_format_kinds.specs.declared.Grid.{Grid}
use Rattle.cgx_format_kinds.specs.declared.Fields.{Fields}
use Rattle.cgx_format_kinds.specs.declared.Fields.TheVariants as fields
use Rattle.cgx_format_kinds.specs.declared.View.{View}
use Rattle.buffers.specs.Put.{put}
use Rattle.buffers.proofs.Puts.{put_next}
use Rattle.cgx_format_cursor.specs.Cursors.{offset_in, run_in, first_of}
use Rattle.cgx_format_cursor.proofs.Laws.{number-back, run-first, run-count}
use Rattle.cgx_c_views.specs.ViewWords.{span_words, list_words, array_words, layer_words, field_words, head_word, head_words, view_words}
use Rattle.cgx_format_kinds.specs.declared.TextSpan.{TextSpan}

-- ---- rows of stores

-- from an index on
pub two : (l : List ℕ) (i a b : ℕ) → set (set l i a) (i + 1) b ≡ put l i (a ∷ b ∷ [])
unfolding put
two l i a b = ap (λ (k : ℕ). set (set l i a) k b) (add-one i)

-- a store before another one, made after it
set_before : (l : List ℕ) (i j v : ℕ) (ws : List ℕ) → i < j → set (put l j ws) i v ≡ put (set l i v) j ws
unfolding put
set_before l i j v [] h = refl
set_before l i j v (w ∷ ws) h =
    set_before (set l j w) i (suc j) v ws (omega arith) ∙ ap (λ (x : List ℕ). put x (suc j) ws) (set_comm l j i w v (λ e. let q : j ≡ i = e in omega arith))

put-swap : (l : List ℕ) (i j : ℕ) (vs ws : List ℕ) → i + length vs ≤ j → put (put l j ws) i vs ≡ put (put l i vs) j ws
unfolding put
put-swap l i j [] ws h = refl
put-swap l i j (v ∷ vs) ws h =
    ap (λ (x : List ℕ). put x (suc i) vs) (set_before l i j v ws (omega arith)) ∙ put-swap (set l i v) (suc i) j vs ws (omega arith)

-- ---- what is stored in the code's order

module _ (w : List ℕ) where
  -- one, two, or three words, and then others
  pub one_more : (a : ℕ) (ws w₁ : List ℕ) (x : ℕ) → x ≡ a → w₁ ≡ put (set w 6 x) 7 ws → w₁ ≡ put w 6 (a ∷ ws)
  unfolding put
  one_more a ws w₁ x qx q = q ∙ rw qx refl

  pub two-more : (a b : ℕ) (ws w₁ : List ℕ) (x y : ℕ) → x ≡ a → y ≡ b → w₁ ≡ put (set (set w 6 x) 7 y) 8 ws → w₁ ≡ put w 6 (a ∷ b ∷ ws)
  unfolding put
  two-more a b ws w₁ x y qx qy q = q ∙ rw (qy, qx) refl

  -- the two reals are as they are given
  pub library-stored : (m u a b : ℕ) (ws w₁ : List ℕ) (x y : ℕ) → x ≡ a → y ≡ b → w₁ ≡ put (set (set (set (set w 6 m) 7 u) 8 x) 9 y) 10 ws → w₁ ≡ put w 6 (m ∷ u ∷ a ∷ b ∷ ws)
  unfolding put
  library-stored m u a b ws w₁ x y qx qy q = q ∙ rw (qy, qx) refl

  -- those of an SREF too
  pub sref-stored : (p a m n x u : ℕ) (ws w₁ : List ℕ) → w₁ ≡ put (set (set (set (set (set (set w 6 p) 7 a) 8 m) 9 n) 10 x) 11 u) 12 ws → w₁ ≡ put w 6 (p ∷ a ∷ m ∷ n ∷ x ∷ u ∷ ws)
  unfolding put
  sref-stored p a m n x u ws w₁ q = q

  -- the six words that every kind has
  pub head-stored : (k : Kind) (fl at cell layer first count a b : ℕ) → a ≡ head_word k fl → b ≡ first_of first count 0
      → set (set (set (set (set (set w 0 a) 1 at) 2 cell) 3 layer) 4 b) 5 count ≡ put w 0 (head_words k fl at (offset_in cell) (offset_in layer) (run_in first count))
  unfolding put head_words
  head-stored k fl at cell layer first count a b qa qb = rw (← number-back cell, ← number-back layer, ← run-first first count, ← run-count first count, qa, qb) refl

  -- the fields, and then the head before them
  pub view-stored : (f : List ℕ) (v : View) (w₁ w₂ : List ℕ) → w₁ ≡ put w 6 (field_words f v.flags v.at v.fields) → w₂ ≡ put w₁ 0 (head_words v.kind v.flags v.at v.cell v.layer v.run) → w₂ ≡ put w 0 (view_words f v)
  unfolding view_words head_words
  view-stored f v w₁ w₂ q₁ q₂ =
      let ws = field_words f v.flags v.at v.fields in
      let hs = head_words v.kind v.flags v.at v.cell v.layer v.run in
      q₂ ∙ ap (λ (x : List ℕ). put x 0 hs) q₁ ∙ put-swap w 0 6 hs ws (omega arith) ∙ put_next w 0 6 6 hs ws refl refl

-- ---- a view has room for every kind: a store of its words leaves none out

layer_fits : (n d : ℤ) (m : Option TextSpan) → length (layer_words n d m) ≤ 8
unfolding layer_words span_words
layer_fits n d None = omega arith
layer_fits n d (Some s) = omega arith

array-fits : (a : Option Grid) (x y : ℕ) → length (array_words a ++ x ∷ y ∷ []) ≡ 5
unfolding array_words
array-fits None x y = refl
array-fits (Some g) x y = refl

fields_fit : (f : List ℕ) (fl at : ℕ) (r : Fields) → length (field_words f fl at r) ≤ 8
unfolding field_words span_words list_words
fields_fit f fl at (fields.Library l) = omega arith
fields_fit f fl at (fields.Struct s) = omega arith
fields_fit f fl at (fields.Cprpty p) = omega arith
fields_fit f fl at (fields.Property p) = omega arith
fields_fit f fl at (fields.Layer l) = layer_fits l.number.0 l.datatype.0 l.name
fields_fit f fl at (fields.Box b) = omega arith
fields_fit f fl at (fields.Poly p) = omega arith
fields_fit f fl at (fields.Wire w) = omega arith
fields_fit f fl at (fields.Text t) = omega arith
fields_fit f fl at (fields.Sref s) = omega (arith, array-fits s.array s.name.at s.name.len)
fields_fit f fl at fields.Endlib = omega arith

pub view-fits : (f : List ℕ) (v : View) → length (view_words f v) ≤ 14
unfolding view_words head_words
view-fits f v = omega (arith, fields_fit f v.flags v.at v.fields)
