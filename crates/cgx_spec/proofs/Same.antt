-- Fields of equal meaning have equal normal forms.
use mathlib.Core.Path.{◌≡◌, refl, sym, ap, ap₂, ◌∙◌}
use mathlib.Core.List.{List, [], ◌∷◌, ◌++◌, map}
use Prim.Native.Nat.{ℕ, ◌*◌, ◌/◌, ◌%◌}
use native.Mathlib.Omega.{arith}
use lib.Dec.{T, eqb, eqb→eq}
use lib.IntN.{pos}
use lib.ListN.{length, take, drop, get_or, take-append-drop, drop_of_length-le}
use lib.Seq.{length-take-le, drop-cons, drop-drop}
use Rattle.cgx_spec.specs.Numbers.{Bytes, short_of, long_of, longs_of}
use Rattle.cgx_spec.specs.Dates.{calendar, good_date, date_of}
use Rattle.cgx_spec.specs.Strings.{text_of, padded, good_string}
use Rattle.cgx_spec.specs.Fields.{Field, real, positive, date, short, longs, string, optional, absent, units, fits, good, value, normal}
use Rattle.cgx_spec.proofs.Lists.{units-is, and_right, same→eq, Bytes-take, Bytes-drop}
use Rattle.cgx_spec.proofs.NumberLaws.{short-same, long_same}
use Rattle.cgx_spec.proofs.RealLaws.{normal_real-only}

-- ---- longs

-- a length that is a multiple of four
abbrev Fours : List ℕ → Type 0
Fours [] = Unit {0}
Fours (a ∷ []) = ⊥
Fours (a ∷ b ∷ []) = ⊥
Fours (a ∷ b ∷ c ∷ []) = ⊥
Fours (a ∷ b ∷ c ∷ d ∷ bs) = Fours bs

fours : (x : List ℕ) → length x % 4 ≡ 0 → Fours x
fours [] h = tt
fours (a ∷ []) h = omega arith
fours (a ∷ b ∷ []) h = omega arith
fours (a ∷ b ∷ c ∷ []) h = omega arith
fours (a ∷ b ∷ c ∷ d ∷ bs) h = fours bs (omega arith)

longs-same : (x y : List ℕ) → Bytes x → Bytes y → Fours x → Fours y → longs_of x ≡ longs_of y → x ≡ y
unfolding longs_of
longs-same [] [] hx hy fx fy e = refl
longs-same [] (a ∷ []) hx hy fx fy e = absurd fy
longs-same [] (a ∷ b ∷ []) hx hy fx fy e = absurd fy
longs-same [] (a ∷ b ∷ c ∷ []) hx hy fx fy e = absurd fy
longs-same [] (a ∷ b ∷ c ∷ d ∷ y) hx hy fx fy e = cc
longs-same (a ∷ []) y hx hy fx fy e = absurd fx
longs-same (a ∷ b ∷ []) y hx hy fx fy e = absurd fx
longs-same (a ∷ b ∷ c ∷ []) y hx hy fx fy e = absurd fx
longs-same (a ∷ b ∷ c ∷ d ∷ x) [] hx hy fx fy e = cc
longs-same (a ∷ b ∷ c ∷ d ∷ x) (a' ∷ []) hx hy fx fy e = absurd fy
longs-same (a ∷ b ∷ c ∷ d ∷ x) (a' ∷ b' ∷ []) hx hy fx fy e = absurd fy
longs-same (a ∷ b ∷ c ∷ d ∷ x) (a' ∷ b' ∷ c' ∷ []) hx hy fx fy e = absurd fy
longs-same (a ∷ b ∷ c ∷ d ∷ x) (a' ∷ b' ∷ c' ∷ d' ∷ y) hx hy fx fy e =
    let u = a ∷ b ∷ c ∷ d ∷ [] in
    let v = a' ∷ b' ∷ c' ∷ d' ∷ [] in
    let p : long_of u ≡ long_of v = cc in
    let q : longs_of x ≡ longs_of y = cc in
    let p' : u ≡ v = long_same u v (Bytes-take 4 (u ++ x) hx) (Bytes-take 4 (v ++ y) hy) refl refl p in
    let q' : x ≡ y = longs-same x y (Bytes-drop 4 (u ++ x) hx) (Bytes-drop 4 (v ++ y) hy) fx fy q in
    ap₂ ◌++◌ p' q'

-- ---- dates

pos-same : (x y : List ℕ) → map pos x ≡ map pos y → x ≡ y
pos-same [] [] e = refl
pos-same [] (b ∷ y) e = cc
pos-same (a ∷ x) [] e = cc
pos-same (a ∷ x) (b ∷ y) e =
    let p : a ≡ b = cc in
    let q : map pos x ≡ map pos y = cc in
    ap₂ ◌∷◌ p (pos-same x y q)

date-is : (x : List ℕ) → length x ≡ 8 → T (good_date x) → x ≡ take 2 x ++ (take 5 (drop 2 x) ++ (0 ∷ []))
unfolding good_date
date-is x l g =
    let z : get_or x 7 0 ≡ 0 = eqb→eq (get_or x 7 0) 0 (and_right (calendar x) (eqb (get_or x 7 0) 0) g) in
    let e : drop 7 x ≡ 0 ∷ [] = drop-cons x 7 0 (omega arith) ∙ ap₂ ◌∷◌ z (drop_of_length-le x {i = 8} (omega arith)) in
    let e' : drop 2 x ≡ take 5 (drop 2 x) ++ (0 ∷ []) = sym (take-append-drop 5 (drop 2 x)) ∙ ap (λ t. take 5 (drop 2 x) ++ t) (drop-drop 5 2 x ∙ e) in
    sym (take-append-drop 2 x) ∙ ap (λ t. take 2 x ++ t) e'

date-same : (x y : List ℕ) → Bytes x → Bytes y → length x ≡ 8 → length y ≡ 8 → T (good_date x) → T (good_date y) → date_of x ≡ date_of y → x ≡ y
unfolding date_of
date-same x y hx hy lx ly gx gy e =
    let s : short_of (take 2 x) ≡ short_of (take 2 y) = cc in
    let r : map pos (take 5 (drop 2 x)) ≡ map pos (take 5 (drop 2 y)) = cc in
    let p : take 2 x ≡ take 2 y = short-same (take 2 x) (take 2 y) (Bytes-take 2 x hx) (Bytes-take 2 y hy) (length-take-le 2 x (omega arith)) (length-take-le 2 y (omega arith)) s in
    let q : take 5 (drop 2 x) ≡ take 5 (drop 2 y) = pos-same (take 5 (drop 2 x)) (take 5 (drop 2 y)) r in
    date-is x lx gx ∙ ap₂ (λ a b. a ++ (b ++ (0 ∷ []))) p q ∙ sym (date-is y ly gy)

-- ---- strings

string-same : (x y : List ℕ) → T (good_string x) → T (good_string y) → text_of x ≡ text_of y → x ≡ y
unfolding good_string
string-same x y gx gy e = same→eq x (padded (text_of x)) gx ∙ ap padded e ∙ sym (same→eq y (padded (text_of y)) gy)

empty : (x : List ℕ) → length x ≡ 0 → x ≡ []
empty [] h = refl
empty (a ∷ x) h = absurd (omega arith)

-- ---- fields

units-fours : (n lo hi w : ℕ) → T (units (4 * n) lo hi w) → w % 4 ≡ 0
units-fours n lo hi w h = let e : w ≡ w / (4 * n) * (4 * n) = (units-is (4 * n) lo hi w h).0 in omega arith

pub normal-same : (f : Field) (x y : List ℕ) → Bytes x → Bytes y → T (fits f (length x)) → T (fits f (length y)) → T (good f x) → T (good f y) → value f x ≡ value f y → normal f x ≡ normal f y
unfolding normal fits good value
normal-same real x y hx hy fx fy gx gy e = normal_real-only x y (cc)
normal-same positive x y hx hy fx fy gx gy e = normal_real-only x y (cc)
normal-same date x y hx hy fx fy gx gy e = date-same x y hx hy (eqb→eq (length x) 8 fx) (eqb→eq (length y) 8 fy) gx gy (cc)
normal-same short x y hx hy fx fy gx gy e = short-same x y hx hy (eqb→eq (length x) 2 fx) (eqb→eq (length y) 2 fy) (cc)
normal-same (longs n lo hi t) x y hx hy fx fy gx gy e = longs-same x y hx hy (fours x (units-fours n lo hi (length x) fx)) (fours y (units-fours n lo hi (length y) fy)) (cc)
normal-same string x y hx hy fx fy gx gy e = string-same x y gx gy (cc)
normal-same optional [] [] hx hy fx fy gx gy e = refl
normal-same optional [] (b ∷ y) hx hy fx fy gx gy e = cc
normal-same optional (a ∷ x) [] hx hy fx fy gx gy e = cc
normal-same optional (a ∷ x) (b ∷ y) hx hy fx fy gx gy e = string-same (a ∷ x) (b ∷ y) gx gy (cc)
normal-same absent x y hx hy fx fy gx gy e = empty x (eqb→eq (length x) 0 fx) ∙ sym (empty y (eqb→eq (length y) 0 fy))
