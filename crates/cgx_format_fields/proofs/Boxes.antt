-- The longs of a body four by four, and its boxes by chunks of 16 bytes; one count. Assumes nothing.
use mathlib.Core.Path.{◌≡◌, refl, sym, ap, ap₂, ◌∙◌}
use mathlib.Core.Bool.{Bool, true, false, ◌&&◌}
use mathlib.Core.List.{List, [], ◌∷◌, ◌++◌}
use Prim.Native.Nat.{ℕ, zero, suc, ◌+◌, ◌-◌, ◌*◌, ◌/◌, ◌%◌, ◌≤◌, ◌<◌}
use native.Mathlib.Omega.{arith}
use lib.IntN.{ℤ, pos}
use lib.Signed.{le_z}
use lib.ListN.{length, take, drop, length-drop, take-append-drop}
use lib.Seq.{drop-drop, length-take-le}
use Rattle.std.specs.Bool.{MatchBool}
use Rattle.std.proofs.Math.Bool.{and-false}
use Rattle.cgx_spec.specs.Numbers.{long_of, longs_of}
use Rattle.cgx_spec.specs.Fields.{in_order, ones}
use Rattle.cgx_spec.proofs.Lists.{and-true, and_assoc}
use Rattle.cgx_spec.proofs.NumberLaws.{longs-count}

pub longs-cons : (b : List ℕ) → 4 ≤ length b → longs_of b ≡ long_of (take 4 b) ∷ longs_of (drop 4 b)
unfolding longs_of
longs-cons [] h = absurd (omega arith)
longs-cons (a ∷ []) h = absurd (omega arith)
longs-cons (a ∷ b ∷ []) h = absurd (omega arith)
longs-cons (a ∷ b ∷ c ∷ []) h = absurd (omega arith)
longs-cons (a ∷ b ∷ c ∷ d ∷ bs) h = refl

pub longs-at : (b : List ℕ) (at to : ℕ) → at + 4 ≡ to → to ≤ length b → longs_of (drop at b) ≡ long_of (take 4 (drop at b)) ∷ longs_of (drop to b)
longs-at b at to e h =
    longs-cons (drop at b) (omega (arith, length-drop at b))
    ∙ ap (λ (l : List ℕ). long_of (take 4 (drop at b)) ∷ longs_of l) (drop-drop 4 at b ∙ ap (λ (k : ℕ). drop k b) e)

-- one count
pub count-is : (b : List ℕ) → length b ≡ 4 → ones (longs_of b) ≡ le_z (pos 1) (long_of (take 4 (drop 0 b)))
unfolding ones longs_of
count-is b h = ap ones (longs-cons b (omega arith)) ∙ go (drop 4 b) (length-drop 4 b)
  where
    go : (t : List ℕ) → length t ≡ length b - 4 → (le_z (pos 1) (long_of (take 4 b)) && ones (longs_of t)) ≡ le_z (pos 1) (long_of (take 4 b))
    go [] e = and-true (le_z (pos 1) (long_of (take 4 b)))
    go (x ∷ t) e = absurd (omega arith)

-- the long at an offset
abbrev pub at_long : List ℕ → ℕ → ℤ
at_long b at = long_of (take 4 (drop at b))

-- One box, by its two comparisons.
pub box-is : (b : List ℕ) → length b ≡ 16 → (le_z (at_long b 0) (at_long b 8) && le_z (at_long b 4) (at_long b 12)) ≡ in_order (longs_of b)
unfolding in_order longs_of
box-is b h =
    let t₃ = longs-at b 12 16 refl (omega arith) in
    let t₂ = longs-at b 8 12 refl (omega arith) ∙ ap (λ (l : List ℤ). at_long b 8 ∷ l) t₃ in
    let t₁ = longs-at b 4 8 refl (omega arith) ∙ ap (λ (l : List ℤ). at_long b 4 ∷ l) t₂ in
    let t₀ = longs-at b 0 4 refl (omega arith) ∙ ap (λ (l : List ℤ). at_long b 0 ∷ l) t₁ in
    sym (ap in_order t₀ ∙ ap (λ (v : Bool). le_z (at_long b 0) (at_long b 8) && le_z (at_long b 4) (at_long b 12) && v) (rest (drop 16 b) (length-drop 16 b)) ∙ and-true (le_z (at_long b 0) (at_long b 8) && le_z (at_long b 4) (at_long b 12)))
  where
    rest : (t : List ℕ) → length t ≡ length b - 16 → in_order (longs_of t) ≡ true
    rest [] e = refl
    rest (x ∷ t) e = absurd (omega arith)

-- ---- all boxes

longs-append : (x y : List ℕ) → length x % 4 ≡ 0 → longs_of (x ++ y) ≡ longs_of x ++ longs_of y
unfolding longs_of
longs-append [] y h = refl
longs-append (a ∷ []) y h = absurd (omega arith)
longs-append (a ∷ b ∷ []) y h = absurd (omega arith)
longs-append (a ∷ b ∷ c ∷ []) y h = absurd (omega arith)
longs-append (a ∷ b ∷ c ∷ d ∷ x) y h = ap (λ (l : List ℤ). long_of (a ∷ b ∷ c ∷ d ∷ []) ∷ l) (longs-append x y (omega arith))

in-order-append : (x y : List ℤ) → length x % 4 ≡ 0 → in_order (x ++ y) ≡ (in_order x && in_order y)
unfolding in_order
in-order-append [] y h = refl
in-order-append (l ∷ []) y h = absurd (omega arith)
in-order-append (l ∷ b ∷ []) y h = absurd (omega arith)
in-order-append (l ∷ b ∷ r ∷ []) y h = absurd (omega arith)
in-order-append (l ∷ b ∷ r ∷ t ∷ x) y h =
    ap (λ (v : Bool). le_z l r && le_z b t && v) (in-order-append x y (omega arith)) ∙ and_assoc (le_z l r && le_z b t) (in_order x) (in_order y)

-- Whether the boxes of a body are in order.
abbrev pub ordered : List ℕ → Bool
ordered b = in_order (longs_of b)

split : (b : List ℕ) (n : ℕ) → n % 16 ≡ 0 → n ≤ length b → ordered b ≡ (ordered (take n b) && ordered (drop n b))
split b n h l =
    let len : length (take n b) ≡ n = length-take-le n b l in
    ap ordered (sym (take-append-drop n b))
    ∙ ap in_order (longs-append (take n b) (drop n b) (omega arith))
    ∙ in-order-append (longs_of (take n b)) (longs_of (drop n b)) (omega (arith, longs-count (take n b)))

-- Box k.
abbrev pub chunk : List ℕ → ℕ → List ℕ
chunk b k = take 16 (drop (k * 16) b)

all-ordered : (n : ℕ) (b : List ℕ) → length b ≡ n * 16 → ((k : ℕ) → k < n → ordered (chunk b k) ≡ true) → ordered b ≡ true
unfolding in_order longs_of
all-ordered zero [] h f = refl
all-ordered zero (x ∷ b) h f = absurd (omega arith)
all-ordered (suc n) b h f =
    let next : (k : ℕ) → k < n → ordered (chunk (drop 16 b) k) ≡ true =
    λ k l. (let e : 16 + k * 16 ≡ suc k * 16 = omega arith in
    ap (λ (t : List ℕ). ordered (take 16 t)) (drop-drop (k * 16) 16 b ∙ ap (λ (i : ℕ). drop i b) e) ∙ f (suc k) (omega arith)) in
    split b 16 refl (omega arith) ∙ ap₂ ◌&&◌ (f 0 (omega arith)) (all-ordered n (drop 16 b) (omega (arith, length-drop 16 b)) next)

one-reversed : (b : List ℕ) (k : ℕ) → k * 16 + 16 ≤ length b → ordered (chunk b k) ≡ false → ordered b ≡ false
one-reversed b k h f =
    let t = drop (k * 16) b in
    let e : ordered t ≡ false = split t 16 refl (omega (arith, length-drop (k * 16) b)) ∙ ap (λ (v : Bool). v && ordered (drop 16 t)) f in
    split b (k * 16) (omega arith) (omega arith) ∙ ap (λ (v : Bool). ordered (take (k * 16) b) && v) e ∙ and-false (ordered (take (k * 16) b))

pub boxes-are : (b : List ℕ) (r : Bool) → length b % 16 ≡ 0 → MatchBool r ((k : ℕ) → k < length b / 16 → ordered (chunk b k) ≡ true) ((k : ℕ) × (k * 16 + 16 ≤ length b) × (ordered (chunk b k) ≡ false)) → r ≡ ordered b
boxes-are b true h f = sym (all-ordered (length b / 16) b (omega arith) f)
boxes-are b false h f = sym (one-reversed b f.0 f.1 f.2)
