-- The values of fields by their offsets in the file, in the parts that code reads. Assumes nothing.
use Rattle.std.specs.Prelude.{None, Option, Some}
use mathlib.Core.Path.{◌≡◌, refl, sym, ap, ap₂, ◌∙◌}
use mathlib.Core.Bool.{true}
use mathlib.Core.List.{List, [], ◌∷◌, ◌++◌, append-nil}
use Prim.Native.Nat.{ℕ, ◌+◌, ◌*◌, ◌-◌, ◌≤◌}
use native.Mathlib.Omega.{arith}
use lib.IntN.{ℤ, pos}
use lib.ListN.{length, take, drop, get_or, length-drop}
use lib.Seq.{length-take-le, take-add, drop-drop}
use Rattle.cgx_spec.specs.declared.Real.{Real}
use Rattle.cgx_spec.specs.Numbers.{number, short_of, long_of, longs_of}
use Rattle.cgx_spec.specs.Reals.{answer, answer_value, real_of}
use Rattle.cgx_spec.specs.Dates.{date_of}
use Rattle.cgx_spec.specs.Fields.{real, date, string, optional, Value, missing, exactly, numbers, value}
use Rattle.cgx_spec.proofs.Promises.{promises}
use Rattle.numbers.proofs.Parts.{part}
use Rattle.cgx_format_kinds.specs.declared.Point.{Point}
use Rattle.cgx_format_kinds.specs.declared.ItemList.{ItemList}
use Rattle.cgx_format_kinds.specs.Meant.{one, point_numbers, date_numbers, list_numbers, array_values}
use Rattle.cgx_read_fields.specs.Views.{NameAt, StringAt, array_if, ArrayIs}
use Rattle.cgx_format_kinds.specs.declared.TextSpan.{TextSpan}

-- ---- a list of values, one after another

infixr 50 ◌then◌
pub ◌then◌ : {v w : Value} {vs ws : List Value} → v ≡ w → vs ≡ ws → v ∷ vs ≡ w ∷ ws
◌then◌ e es = ap₂ ◌∷◌ e es

-- ---- reals

pub real-value : (b : List ℕ) {r : Real} → r ≡ answer (number b) → exactly (answer_value r) ≡ value real b
unfolding value real_of
real-value b e = ap (λ (x : Real). exactly (answer_value x)) e ∙ ap exactly (promises.reals.answer-value (number b))

-- ---- numbers

-- the first long, and the others
longs-more : (l m : List ℕ) → length l ≡ 4 → longs_of (l ++ m) ≡ long_of l ∷ longs_of m
unfolding longs_of
longs-more [] m h = absurd (omega arith)
longs-more (a ∷ []) m h = absurd (omega arith)
longs-more (a ∷ b ∷ []) m h = absurd (omega arith)
longs-more (a ∷ b ∷ c ∷ []) m h = absurd (omega arith)
longs-more (a ∷ b ∷ c ∷ d ∷ []) m h = refl
longs-more (a ∷ b ∷ c ∷ d ∷ e ∷ l) m h = absurd (omega arith)

four : (f : List ℕ) (at : ℕ) → at + 4 ≤ length f → length (take 4 (drop at f)) ≡ 4
four f at h = length-take-le 4 (drop at f) (omega (arith, length-drop at f))

longs-one : (f : List ℕ) (at : ℕ) → at + 4 ≤ length f → longs_of (take 4 (drop at f)) ≡ long_of (take 4 (drop at f)) ∷ []
unfolding longs_of
longs-one f at h = ap longs_of (sym (append-nil (take 4 (drop at f)))) ∙ longs-more (take 4 (drop at f)) [] (four f at h)

pub long-value : (f : List ℕ) (at : ℕ) → at + 4 ≤ length f → {z : ℤ} → z ≡ long_of (take 4 (drop at f)) → one z ≡ numbers (longs_of (take 4 (drop at f)))
long-value f at h e = ap one e ∙ ap numbers (sym (longs-one f at h))

longs-two : (f : List ℕ) (at : ℕ) → at + 8 ≤ length f → longs_of (take 8 (drop at f)) ≡ long_of (take 4 (drop at f)) ∷ long_of (take 4 (drop (at + 4) f)) ∷ []
longs-two f at h =
    ap longs_of (take-add 4 4 (drop at f) ∙ ap (λ (l : List ℕ). take 4 (drop at f) ++ take 4 l) (drop-drop 4 at f))
    ∙ longs-more (take 4 (drop at f)) (take 4 (drop (at + 4) f)) (four f at (omega arith))
    ∙ ap (λ (zs : List ℤ). long_of (take 4 (drop at f)) ∷ zs) (longs-one f (at + 4) (omega arith))

pub point-value : (f : List ℕ) (at : ℕ) → at + 8 ≤ length f → {p : Point} → (p.x ≡ long_of (take 4 (drop at f))) × (p.y ≡ long_of (take 4 (drop (at + 4) f))) → point_numbers p ≡ numbers (longs_of (take 8 (drop at f)))
unfolding point_numbers
point-value f at h {p} e = ap₂ (λ (x y : ℤ). numbers (x ∷ y ∷ [])) e.0 e.1 ∙ ap numbers (sym (longs-two f at h))

module _ (f : List ℕ) (at : ℕ) where
  -- the second long of a point, by its own offset
  pub second-value : (o : ℕ) → o ≡ at + 4 → o + 4 ≤ length f → {z : ℤ} → z ≡ long_of (take 4 (drop (at + 4) f)) → one z ≡ numbers (longs_of (take 4 (drop o f)))
  second-value o q h e = long-value f o h (e ∙ ap (λ (k : ℕ). long_of (take 4 (drop k f))) (sym q))

  pub date-value : at + 8 ≤ length f → {y : ℤ} → y ≡ short_of (take 2 (drop at f))
      → date_numbers (record { year = y; month = get_or f (at + 2) 0; day = get_or f (at + 3) 0; hour = get_or f (at + 4) 0; minute = get_or f (at + 5) 0; second = get_or f (at + 6) 0 }) ≡ value date (take 8 (drop at f))
  unfolding date_numbers value date_of
  date-value h e =
      ap (λ (z : ℤ). numbers (z ∷ pos (get_or f (at + 2) 0) ∷ pos (get_or f (at + 3) 0) ∷ pos (get_or f (at + 4) 0) ∷ pos (get_or f (at + 5) 0) ∷ pos (get_or f (at + 6) 0) ∷ [])) (e ∙ ap short_of (sym (part f at 1 (omega arith))))
      ∙ ap (λ (b : List ℕ). numbers (date_of b)) (part f at 7 h)

  -- columns, rows and two points, from byte o of a record on
  pub array-value : (o : ℕ) → at + (o + 24) ≤ length f → {c r : ℤ} {a u : Point} → c ≡ long_of (take 4 (drop (at + o) f)) → r ≡ long_of (take 4 (drop (at + (o + 4)) f))
      → (a.x ≡ long_of (take 4 (drop (at + (o + 8)) f))) × (a.y ≡ long_of (take 4 (drop (at + (o + 8) + 4) f)))
      → (u.x ≡ long_of (take 4 (drop (at + (o + 16)) f))) × (u.y ≡ long_of (take 4 (drop (at + (o + 16) + 4) f))) → ArrayIs true f at o (Some (record { cols = c; rows = r; across = a; up = u }))
  unfolding array_values array_if
  array-value o h ec er ea eu vs =
      long-value f (at + o) (omega arith) ec then long-value f (at + (o + 4)) (omega arith) er
      then point-value f (at + (o + 8)) (omega arith) ea
      then point-value f (at + (o + 16)) (omega arith) eu
      then refl

-- ---- repeats

pub list-value : (u : ℕ) (f : List ℕ) (first len : ℕ) (r : ItemList) → (r.first ≡ first) × (u * r.count ≡ len) → list_numbers u f r ≡ numbers (longs_of (take len (drop first f)))
unfolding list_numbers
list-value u f first len r e = ap₂ (λ (n k : ℕ). numbers (longs_of (take n (drop k f)))) e.1 e.0

-- ---- names

pub no_name : (f : List ℕ) (at len : ℕ) → len ≡ 0 → missing ≡ value optional (take len (drop at f))
unfolding value
no_name f at len e = rw e refl

pub a_name : (f : List ℕ) (at len : ℕ) → StringAt f at len → {v : Value} → v ≡ value string (take len (drop at f)) → v ≡ value optional (take len (drop at f))
unfolding value
a_name f at len s e = e ∙ go (take len (drop at f)) (let l = s.least in let i = s.inside in omega (arith, length-take-le len (drop at f) (omega (arith, length-drop at f))))
  where
    go : (b : List ℕ) → 2 ≤ length b → value string b ≡ value optional b
    go [] h = absurd (omega arith)
    go (x ∷ b) h = refl

pub name_in_lem : (at o size : ℕ) (n : Option TextSpan) → o ≤ size → NameAt (at + o) (at + o + (size - o)) n → NameAt (at + o) (at + size) n
name_in_lem at o size None l h = tt
name_in_lem at o size (Some s) l h = (h.0, omega arith)
