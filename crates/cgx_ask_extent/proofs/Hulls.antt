-- The hull of some points is the least rectangle around them; and the loop over the longs of a body. Assumes nothing.
use Rattle.std.specs.Prelude.{None, Option, Some}
use mathlib.Core.Path.{◌≡◌, refl, sym, ap, ap₂, ◌∙◌}
use mathlib.Core.Bool.{Bool, true, false, not, cond}
use mathlib.Core.List.{List, [], ◌∷◌, ◌++◌}
use Prim.Native.Nat.{ℕ, ◌+◌, ◌^◌, ◌≤◌, ◌<◌}
use native.Mathlib.Omega.{arith}
use borrow.Author.Tests.{leb-true, leb-false, le-ltb, lt-ltb}
use lib.Dec.{leb, ltb, le→leb, leb→le}
use Rattle.std.specs.Int.{int_min, int_max}
use lib.IntN.{ℤ, pos, negsuc}
use lib.Signed.{mag, le_z, lt_z, ◌≤ℤ◌, ≤ℤ_refl}
use lib.ListN.{length, take, drop, length-drop}
use mir.Syntax.{Width, w32}
use mir.Val.{SFits, to_z, of_z, hbits}
use mir.ValLaws.{to_z-of_z}
use Rattle.cgx_spec.specs.Numbers.{long_of, longs_of}
use Rattle.numbers.proofs.Signed.{back}
use Rattle.cgx_format_fields.proofs.Boxes.{longs-at}
use Rattle.cgx_spec.proofs.Lists.{true→T, false→¬T}
use Rattle.cgx_format_kinds.specs.declared.Point.{Point}
use Rattle.cgx_format_kinds.specs.declared.Sides.{Sides}
use Rattle.cgx_ask_extent.specs.Extent.{pairs, min_z, max_z, only, wider, widest, hull, Holds, HoldsAll, Within, Right}
use Rattle.cgx_ask_extent.specs.Cells.{hull_from}

-- ---- the order of whole numbers

trans-at : (a b c : ℤ) → a ≤ℤ b → b ≤ℤ c → a ≤ℤ c
trans-at (pos a) (pos b) (pos c) h k = record { le = le→leb a c (omega (arith, leb→le a b h.le, leb→le b c k.le)) }
trans-at (pos a) (pos b) (negsuc c) h k = absurd k.le
trans-at (pos a) (negsuc b) c h k = absurd h.le
trans-at (negsuc a) b (pos c) h k = record { le = tt }
trans-at (negsuc a) (pos b) (negsuc c) h k = absurd k.le
trans-at (negsuc a) (negsuc b) (negsuc c) h k = record { le = le→leb c a (omega (arith, leb→le b a h.le, leb→le c b k.le)) }

trans : {a b c : ℤ} → a ≤ℤ b → b ≤ℤ c → a ≤ℤ c
trans {a} {b} {c} h k = trans-at a b c h k

other : (a b : ℤ) → le_z a b ≡ false → b ≤ℤ a
other (pos a) (pos b) e = record { le = le→leb b a (omega (arith, leb-false a b e)) }
other (pos a) (negsuc b) e = record { le = tt }
other (negsuc a) (pos b) e = absurd (false→¬T e tt)
other (negsuc a) (negsuc b) e = record { le = le→leb a b (omega (arith, leb-false b a e)) }

module _ (a b : ℤ) where
  min-left : min_z a b ≤ℤ a
  min-left = go (le_z a b) refl
    where
      go : (t : Bool) → le_z a b ≡ t → cond t a b ≤ℤ a
      go true e = ≤ℤ_refl a
      go false e = other a b e

  min-right : min_z a b ≤ℤ b
  min-right = go (le_z a b) refl
    where
      go : (t : Bool) → le_z a b ≡ t → cond t a b ≤ℤ b
      go true e = record { le = true→T e }
      go false e = ≤ℤ_refl b

  max-left : a ≤ℤ max_z a b
  max-left = go (le_z a b) refl
    where
      go : (t : Bool) → le_z a b ≡ t → a ≤ℤ cond t b a
      go true e = record { le = true→T e }
      go false e = ≤ℤ_refl a

  max-right : b ≤ℤ max_z a b
  max-right = go (le_z a b) refl
    where
      go : (t : Bool) → le_z a b ≡ t → b ≤ℤ cond t b a
      go true e = ≤ℤ_refl b
      go false e = other a b e

  min-above : {c : ℤ} → c ≤ℤ a → c ≤ℤ b → c ≤ℤ min_z a b
  min-above {c} h k = go (le_z a b)
    where
      go : (t : Bool) → c ≤ℤ cond t a b
      go true = h
      go false = k

  max-below : {c : ℤ} → a ≤ℤ c → b ≤ℤ c → max_z a b ≤ℤ c
  max-below {c} h k = go (le_z a b)
    where
      go : (t : Bool) → cond t b a ≤ℤ c
      go true = k
      go false = h

-- ---- what code makes of them: a local of a signed type, read back, is the number

below : (a b : ℕ) → ltb b a ≡ not (leb a b)
below a b = go (leb a b) refl
  where
    go : (t : Bool) → leb a b ≡ t → ltb b a ≡ not t
    go true e = le-ltb b a (leb-true a b e)
    go false e = lt-ltb b a (leb-false a b e)

before : (a b : ℤ) → lt_z b a ≡ not (le_z a b)
before (pos a) (pos b) = below a b
before (pos a) (negsuc b) = refl
before (negsuc a) (pos b) = refl
before (negsuc a) (negsuc b) = below b a

pub least-is : (a b : ℤ) → int_min a b ≡ min_z a b
least-is a b = ap (λ (t : Bool). cond t b a) (before a b) ∙ go (le_z a b)
  where
    go : (t : Bool) → cond (not t) b a ≡ cond t a b
    go true = refl
    go false = refl

pub most-is : (a b : ℤ) → int_max a b ≡ max_z a b
most-is a b = ap (λ (t : Bool). cond t a b) (before a b) ∙ go (le_z a b)
  where
    go : (t : Bool) → cond (not t) a b ≡ cond t b a
    go true = refl
    go false = refl

-- one side, of two numbers that code read from fields
pub side-is : (w : Width) (pick : ℤ → ℤ → ℤ) (a b : ℤ) {r : ℤ} → mag a < 2 ^ hbits w → mag b < 2 ^ hbits w → mag r < 2 ^ hbits w → r ≡ pick (to_z w (of_z w a)) (to_z w (of_z w b)) → to_z w (of_z w r) ≡ pick a b
side-is w pick a b fa fb fr e = back w fr ∙ e ∙ ap₂ pick (back w {z = a} fa) (back w {z = b} fb)

pub sides-are : {l b r t l' b' r' t' : ℤ} → l ≡ l' → b ≡ b' → r ≡ r' → t ≡ t' → ◌≡◌ {A = Sides} (record { left = l; bottom = b; right = r; top = t }) (record { left = l'; bottom = b'; right = r'; top = t' })
sides-are e₁ e₂ e₃ e₄ = cc

-- ---- one point more

within-refl : (s : Sides) → Within s s
within-refl s = record { left = ≤ℤ_refl s.left; bottom = ≤ℤ_refl s.bottom; right = ≤ℤ_refl s.right; top = ≤ℤ_refl s.top }

within-trans : {s t u : Sides} → Within s t → Within t u → Within s u
within-trans h k = record { left = trans k.left h.left; bottom = trans k.bottom h.bottom; right = trans h.right k.right; top = trans h.top k.top }

holds-within : {s t : Sides} {p : Point} → Holds s p → Within s t → Holds t p
holds-within h k = record { left = trans k.left h.left; bottom = trans k.bottom h.bottom; right = trans h.right k.right; top = trans h.top k.top }

module _ (s : Sides) (p : Point) where
  wider-within : Within s (wider s p)
  unfolding wider
  wider-within = record { left = min-left s.left p.x; bottom = min-left s.bottom p.y; right = max-left s.right p.x; top = max-left s.top p.y }

  wider-holds : Holds (wider s p) p
  unfolding wider
  wider-holds = record { left = min-right s.left p.x; bottom = min-right s.bottom p.y; right = max-right s.right p.x; top = max-right s.top p.y }

  wider-least : {t : Sides} → Within s t → Holds t p → Within (wider s p) t
  unfolding wider
  wider-least w h =
      record {
        left = min-above s.left p.x w.left h.left;
        bottom = min-above s.bottom p.y w.bottom h.bottom;
        right = max-below s.right p.x w.right h.right;
        top = max-below s.top p.y w.top h.top;
      }

-- ---- all points

widest-grows : (s : Sides) (ps : List Point) → Within s (widest s ps)
unfolding widest
widest-grows s [] = within-refl s
widest-grows s (p ∷ ps) = within-trans (wider-within s p) (widest-grows (wider s p) ps)

widest-holds : (s : Sides) (ps : List Point) → HoldsAll (widest s ps) ps
unfolding widest
widest-holds s [] = tt
widest-holds s (p ∷ ps) = (holds-within (wider-holds s p) (widest-grows (wider s p) ps), widest-holds (wider s p) ps)

widest-least : (t s : Sides) (ps : List Point) → Within s t → HoldsAll t ps → Within (widest s ps) t
unfolding widest
widest-least t s [] w h = w
widest-least t s (p ∷ ps) w h = widest-least t (wider s p) ps (wider-least s p w h.0) h.1

only-holds : (p : Point) → Holds (only p) p
unfolding only
only-holds p = record { left = ≤ℤ_refl p.x; bottom = ≤ℤ_refl p.y; right = ≤ℤ_refl p.x; top = ≤ℤ_refl p.y }

only-least : (p : Point) {t : Sides} → Holds t p → Within (only p) t
unfolding only
only-least p h = record { left = h.left; bottom = h.bottom; right = h.right; top = h.top }

pub hull-right : (ps : List Point) → Right ps (hull ps)
unfolding hull
hull-right [] = tt
hull-right (p ∷ ps) =
    record {
      holds = (holds-within (only-holds p) (widest-grows (only p) ps), widest-holds (only p) ps);
      least = λ t h. widest-least t (only p) ps (only-least p h.0) h.1;
    }

-- ---- more points after others

widest-append : (s : Sides) (ps qs : List Point) → widest s (ps ++ qs) ≡ widest (widest s ps) qs
unfolding widest
widest-append s [] qs = refl
widest-append s (p ∷ ps) qs = widest-append (wider s p) ps qs

pub hull-append : (r : Option Sides) (ps qs : List Point) → hull_from r (ps ++ qs) ≡ hull_from (hull_from r ps) qs
unfolding hull_from hull
hull-append None [] qs = refl
hull-append None (p ∷ ps) qs = ap Some (widest-append (only p) ps qs)
hull-append (Some s) ps qs = ap Some (widest-append s ps qs)

pub hull-none : (r : Option Sides) → hull_from r [] ≡ r
unfolding hull_from hull widest
hull-none None = refl
hull-none (Some s) = refl

-- ---- the points of a body, from a byte on

abbrev pub points_at : List ℕ → ℕ → List Point
points_at b at = pairs (longs_of (drop at b))

abbrev pub point_at : List ℕ → ℕ → Point
point_at b at = record { x = long_of (take 4 (drop at b)); y = long_of (take 4 (drop (at + 4) b)) }

-- a point and a rectangle that code made of two longs
pub point-is : {x y x' y' : ℤ} → mag x < 2 ^ hbits w32 → mag y < 2 ^ hbits w32 → x ≡ x' → y ≡ y' → ◌≡◌ {A = Point} (record { x = to_z w32 (of_z w32 x); y = to_z w32 (of_z w32 y) }) (record { x = x'; y = y' })
point-is {x} {y} fx fy e d = let a = back w32 {z = x} fx in let b = back w32 {z = y} fy in cc

pub only-is : {x y x' y' : ℤ} → mag x < 2 ^ hbits w32 → mag y < 2 ^ hbits w32 → x ≡ x' → y ≡ y' → ◌≡◌ {A = Sides} (record { left = to_z w32 (of_z w32 x); bottom = to_z w32 (of_z w32 y); right = to_z w32 (of_z w32 x); top = to_z w32 (of_z w32 y) }) (only (record { x = x'; y = y' }))
unfolding only
only-is {x} {y} fx fy e d = let a = back w32 {z = x} fx ∙ e in let b = back w32 {z = y} fy ∙ d in sides-are a b a b

pub points_on : (b : List ℕ) (at : ℕ) → at + 8 ≤ length b → points_at b at ≡ point_at b at ∷ points_at b (at + 8)
unfolding pairs
points_on b at h =
    ap pairs
    (longs-at b at (at + 4) refl (omega arith)
    ∙ ap (λ (l : List ℤ). long_of (take 4 (drop at b)) ∷ l) (longs-at b (at + 4) (at + 8) (omega arith) h))

pub few : (l : List ℕ) → length l < 8 → pairs (longs_of l) ≡ []
unfolding pairs longs_of
few [] h = refl
few (a ∷ []) h = refl
few (a ∷ b ∷ []) h = refl
few (a ∷ b ∷ c ∷ []) h = refl
few (a ∷ b ∷ c ∷ d ∷ []) h = refl
few (a ∷ b ∷ c ∷ d ∷ e ∷ []) h = refl
few (a ∷ b ∷ c ∷ d ∷ e ∷ f ∷ []) h = refl
few (a ∷ b ∷ c ∷ d ∷ e ∷ f ∷ g ∷ []) h = refl
few (a ∷ b ∷ c ∷ d ∷ e ∷ f ∷ g ∷ i ∷ l) h = absurd (omega arith)

pub points-end : (b : List ℕ) (at : ℕ) → length b < at + 8 → points_at b at ≡ []
points-end b at h = few (drop at b) (omega (arith, length-drop at b))

-- the eight bytes before others are a point
chunk-point : (p r : List ℕ) → length p ≡ 8 → pairs (longs_of (p ++ r)) ≡ record { x = long_of (take 4 p); y = long_of (take 4 (drop 4 p)) } ∷ pairs (longs_of r)
unfolding pairs longs_of
chunk-point [] r h = absurd (omega arith)
chunk-point (a ∷ []) r h = absurd (omega arith)
chunk-point (a ∷ b ∷ []) r h = absurd (omega arith)
chunk-point (a ∷ b ∷ c ∷ []) r h = absurd (omega arith)
chunk-point (a ∷ b ∷ c ∷ d ∷ []) r h = absurd (omega arith)
chunk-point (a ∷ b ∷ c ∷ d ∷ e ∷ []) r h = absurd (omega arith)
chunk-point (a ∷ b ∷ c ∷ d ∷ e ∷ f ∷ []) r h = absurd (omega arith)
chunk-point (a ∷ b ∷ c ∷ d ∷ e ∷ f ∷ g ∷ []) r h = absurd (omega arith)
chunk-point (a ∷ b ∷ c ∷ d ∷ e ∷ f ∷ g ∷ i ∷ []) r h = refl
chunk-point (a ∷ b ∷ c ∷ d ∷ e ∷ f ∷ g ∷ i ∷ j ∷ l) r h = absurd (omega arith)

-- ---- the loop: what is left of the points widens what they have widened so far

pub widest-on : (l p r : List ℕ) {w : Sides} (s : Sides) {t : Sides} → w ≡ widest s (pairs (longs_of l)) → l ≡ p ++ r → length p ≡ 8 → t ≡ wider s (record { x = long_of (take 4 p); y = long_of (take 4 (drop 4 p)) }) → w ≡ widest t (pairs (longs_of r))
unfolding widest
widest-on l p r s i q h e = i ∙ ap (λ (x : List ℕ). widest s (pairs (longs_of x))) q ∙ ap (widest s) (chunk-point p r h) ∙ ap (λ (x : Sides). widest x (pairs (longs_of r))) (sym e)

pub widest-done : (l : List ℕ) {w : Sides} (s : Sides) → w ≡ widest s (pairs (longs_of l)) → length l < 8 → s ≡ w
unfolding widest
widest-done l s i h = sym (i ∙ ap (widest s) (few l h))

-- ---- a rectangle and a body

module _ (b : List ℕ) (from : ℕ) (r : Option Sides) where
  pub no-points : length b < from + 8 → r ≡ hull_from r (points_at b from)
  no-points h = sym (ap (hull_from r) (points-end b from h) ∙ hull-none r)

  pub first-points : {t u : Sides} → r ≡ None → from + 8 ≤ length b → t ≡ only (point_at b from) → u ≡ widest t (points_at b (from + 8)) → Some u ≡ hull_from r (points_at b from)
  unfolding hull_from hull
  first-points q h e d =
      sym (ap (λ (x : Option Sides). hull_from x (points_at b from)) q ∙ ap hull (points_on b from h) ∙ ap (λ (x : Sides). Some (widest x (points_at b (from + 8)))) (sym e) ∙ ap Some (sym d))

  pub more-points : {s u : Sides} → r ≡ Some s → u ≡ widest s (points_at b from) → Some u ≡ hull_from r (points_at b from)
  unfolding hull_from
  more-points q d = sym (ap (λ (x : Option Sides). hull_from x (points_at b from)) q ∙ ap Some (sym d))
