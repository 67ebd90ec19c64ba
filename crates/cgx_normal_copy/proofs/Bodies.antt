-- A body's normal form is the body with its normal reals stored over the others: no other field changes. Assumes nothing.
use mathlib.Core.Path.{◌≡◌, refl, sym, ap, ap₂, ◌∙◌}
use mathlib.Core.Bool.{Bool, true, false}
use mathlib.Core.List.{List, [], ◌∷◌, ◌++◌, append-nil, append_assoc}
use Prim.Native.Nat.{ℕ, ◌+◌, ◌≤◌}
use native.Mathlib.Omega.{arith}
use lib.Dec.{T, leb→le}
use lib.ListN.{length, take, drop, length-append, length-drop, take-append-drop}
use lib.Seq.{drop-drop, take-add, length-take-le}
use Rattle.cgx_spec.specs.declared.Kind.{Kind}
use Rattle.cgx_spec.specs.declared.Kind.TheVariants.{Library, Struct, Cprpty, Property, Layer, Box, Poly, Wire, Text, Sref, Endlib}
use Rattle.cgx_spec.specs.Reals.{normal_real}
use Rattle.cgx_spec.specs.Fields.{Field, real, positive, date, short, longs, string, optional, absent, width, normal, pieces, every, normal_bytes}
use Rattle.cgx_spec.specs.Kinds.{angle, magnif, array, only_if, long, count, point, layout}
use Rattle.cgx_spec.specs.Restated.{good_size}
use Rattle.cgx_spec.proofs.Lists.{every-cons}
use Rattle.cgx_spec.proofs.RealLaws.{normal_real-length}
use Rattle.buffers.specs.Put.{put}
use Rattle.buffers.proofs.Puts.{put-nil, put_next, put-over}
use Rattle.cgx_normal_copy.specs.declared.Reals.{Reals}
use Rattle.cgx_normal_copy.specs.Copy.{reals_in, real_width, reals_end, real_if, normal_reals}

-- ---- fields that are no reals

abbrev plain : Field → Bool
plain real = false
plain positive = false
plain date = true
plain short = true
plain (longs n lo hi t) = true
plain string = true
plain optional = true
plain absent = true

plain-stays : (f : Field) (b : List ℕ) → T (plain f) → normal f b ≡ b
unfolding normal
plain-stays real b h = absurd h
plain-stays positive b h = absurd h
plain-stays date b h = refl
plain-stays short b h = refl
plain-stays (longs n lo hi t) b h = refl
plain-stays string b h = refl
plain-stays optional b h = refl
plain-stays absent b h = refl

stays : (fs : List Field) (b : List ℕ) → T (every plain fs) → normal_bytes (pieces fs b) ≡ b
unfolding normal_bytes pieces normal
stays [] b h = append-nil b
stays (f ∷ fs) b h =
    let w = width f (length b) in
    let e = every-cons plain f fs h in
    ap₂ ◌++◌ (plain-stays f (take w b) e.0) (stays fs (drop w b) e.1) ∙ take-append-drop w b

-- ---- two reals

pub length-real_if : (s : Bool) (b : List ℕ) → length (real_if s b) ≡ real_width s
unfolding real_if real_width
length-real_if true b = normal_real-length (take 8 b)
length-real_if false b = refl

pub length-reals : (r : Reals) (b : List ℕ) → length (normal_reals r b) ≡ real_width r.first + real_width r.second
unfolding normal_reals
length-reals r b =
    let n = real_if r.first (drop r.skip b) in
    let m = real_if r.second (drop (r.skip + real_width r.first) b) in
    length-append n m ∙ ap₂ ◌+◌ (length-real_if r.first _) (length-real_if r.second _)

-- what is before the reals, the normal reals, and what is after them
stored : (r : Reals) (b : List ℕ) → reals_end r ≤ length b
    → put b r.skip (normal_reals r b) ≡ take r.skip b ++ (real_if r.first (drop r.skip b) ++ (real_if r.second (drop (r.skip + real_width r.first) b) ++ drop (reals_end r) b))
unfolding normal_reals
stored r b h =
    let i = r.skip in
    let w = real_width r.first + real_width r.second in
    let y = take w (drop i b) in
    let z = drop w (drop i b) in
    let e : b ≡ take i b ++ (y ++ z) = sym (take-append-drop i b) ∙ ap (λ (l : List ℕ). take i b ++ l) (sym (take-append-drop w (drop i b))) in
    let l : length y ≡ w = length-take-le w (drop i b) (omega (arith, length-drop i b)) in
    let q : drop w (drop i b) ≡ drop (reals_end r) b = drop-drop w i b ∙ ap (λ (k : ℕ). drop k b) (let n : i + w ≡ reals_end r = omega arith in n) in
    let n = real_if r.first (drop i b) in
    let m = real_if r.second (drop (i + real_width r.first) b) in
    ap (λ (x : List ℕ). put x i (normal_reals r b)) e
    ∙ put-over (take i b) y z (normal_reals r b) i (length-take-le i b (omega arith)) (length-reals r b ∙ sym l)
    ∙ ap (λ (x : List ℕ). take i b ++ x) (append_assoc n m z ∙ ap (λ (x : List ℕ). n ++ (m ++ x)) q)

-- ---- the kinds

abbrev placing : Bool → List Field
placing z = only_if z count ∷ only_if z count ∷ only_if z point ∷ only_if z point ∷ string ∷ []

placing-plain : (z : Bool) → T (every plain (placing z))
placing-plain true = tt
placing-plain false = tt

-- SREF's fields after x and y
turned : (x y z : Bool) (c : List ℕ)
    → normal_bytes (pieces (only_if x real ∷ only_if y positive ∷ placing z) c) ≡ real_if x c ++ (real_if y (drop (real_width x) c) ++ drop (real_width y) (drop (real_width x) c))
unfolding normal_bytes pieces normal width real_if real_width
turned true true z c = ap (λ (l : List ℕ). normal_real (take 8 c) ++ (normal_real (take 8 (drop 8 c)) ++ l)) (stays (placing z) (drop 8 (drop 8 c)) (placing-plain z))
turned true false z c = ap (λ (l : List ℕ). normal_real (take 8 c) ++ l) (stays (placing z) (drop 8 c) (placing-plain z))
turned false true z c = ap (λ (l : List ℕ). normal_real (take 8 c) ++ l) (stays (placing z) (drop 8 c) (placing-plain z))
turned false false z c = stays (placing z) c (placing-plain z)

sref-is : (x y z : Bool) (b : List ℕ)
    → normal_bytes (pieces (long ∷ long ∷ only_if x real ∷ only_if y positive ∷ placing z) b) ≡ take 8 b ++ (real_if x (drop 8 b) ++ (real_if y (drop (8 + real_width x) b) ++ drop (8 + real_width x + real_width y) b))
unfolding normal_bytes pieces normal width
sref-is x y z b =
    let after : List ℕ → List ℕ = λ c. normal_bytes (pieces (only_if x real ∷ only_if y positive ∷ placing z) c) in
    let c = drop 8 b in
    let p : drop (real_width x) c ≡ drop (8 + real_width x) b = drop-drop (real_width x) 8 b in
    let q : drop (real_width y) (drop (8 + real_width x) b) ≡ drop (8 + real_width x + real_width y) b = drop-drop (real_width y) (8 + real_width x) b in
    let rest = real_if x c ++ (real_if y (drop (8 + real_width x) b) ++ drop (8 + real_width x + real_width y) b) in
    let e : after (drop 4 (drop 4 b)) ≡ rest =
    ap after (drop-drop 4 4 b) ∙ turned x y z c ∙ ap (λ (d : List ℕ). real_if x c ++ (real_if y d ++ drop (real_width y) d)) p
    ∙ ap (λ (d : List ℕ). real_if x c ++ (real_if y (drop (8 + real_width x) b) ++ d)) q in
    ap (λ (l : List ℕ). take 4 b ++ (take 4 (drop 4 b) ++ l)) e
    ∙ sym (append_assoc (take 4 b) (take 4 (drop 4 b)) rest)
    ∙ ap (λ (l : List ℕ). l ++ rest) (sym (take-add 4 4 b))

pub body_is : (k : Kind) (fl : ℕ) (b : List ℕ) → reals_end (reals_in k fl) ≤ length b
    → normal_bytes (pieces (layout k fl) b) ≡ put b (reals_in k fl).skip (normal_reals (reals_in k fl) b)
unfolding layout reals_in real_if real_width normal_reals normal_bytes pieces normal width
body_is Library fl b h =
    ap (λ (l : List ℕ). normal_real (take 8 b) ++ (normal_real (take 8 (drop 8 b)) ++ l)) (stays (date ∷ date ∷ string ∷ []) (drop 8 (drop 8 b)) tt ∙ drop-drop 8 8 b)
    ∙ sym (stored (reals_in Library fl) b h)
body_is Struct fl b h = stays (layout Struct fl) b tt ∙ sym (put-nil b 0)
body_is Cprpty fl b h = stays (layout Cprpty fl) b tt ∙ sym (put-nil b 0)
body_is Property fl b h = stays (layout Property fl) b tt ∙ sym (put-nil b 0)
body_is Layer fl b h = stays (layout Layer fl) b tt ∙ sym (put-nil b 0)
body_is Box fl b h = stays (layout Box fl) b tt ∙ sym (put-nil b 0)
body_is Poly fl b h = stays (layout Poly fl) b tt ∙ sym (put-nil b 0)
body_is Wire fl b h = stays (layout Wire fl) b tt ∙ sym (put-nil b 0)
body_is Text fl b h = stays (layout Text fl) b tt ∙ sym (put-nil b 0)
body_is Sref fl b h = sref-is (angle fl) (magnif fl) (array fl) b ∙ sym (stored (reals_in Sref fl) b h)
body_is Endlib fl b h = stays (layout Endlib fl) b tt ∙ sym (put-nil b 0)

-- a body of a size that its kind may have holds its reals
pub reals-fit : (k : Kind) (fl n : ℕ) → T (good_size k fl (4 + n)) → reals_end (reals_in k fl) ≤ n
unfolding good_size reals_in real_width
reals-fit Library fl n h = omega (arith, leb→le 38 (4 + n) h)
reals-fit Struct fl n h = omega arith
reals-fit Cprpty fl n h = omega arith
reals-fit Property fl n h = omega arith
reals-fit Layer fl n h = omega arith
reals-fit Box fl n h = omega arith
reals-fit Poly fl n h = omega arith
reals-fit Wire fl n h = omega arith
reals-fit Text fl n h = omega arith
reals-fit Sref fl n h = omega (arith, leb→le _ (4 + n) h)
reals-fit Endlib fl n h = omega arith

-- ---- the steps of the code

pub wide-on : {s : Bool} → s ≡ true → real_width s ≡ 8
unfolding real_width
wide-on e = rw e

pub real-on : {s : Bool} (b : List ℕ) → s ≡ true → normal_real (take 8 b) ≡ real_if s b
unfolding real_if
real-on b e = rw e

pub real-off : {s : Bool} (b : List ℕ) → s ≡ false → real_if s b ≡ []
unfolding real_if
real-off b e = rw e

-- the second real is stored right after the first
pub two-stored : (r : Reals) (b out x y : List ℕ) (to w : ℕ) → w ≡ real_width r.first
    → x ≡ put out (to + r.skip) (real_if r.first (drop r.skip b))
    → y ≡ put x (to + (r.skip + w)) (real_if r.second (drop (r.skip + w) b))
    → y ≡ put out (to + r.skip) (normal_reals r b)
unfolding normal_reals
two-stored r b out x y to w e p q =
    let v = real_width r.first in
    let n = real_if r.first (drop r.skip b) in
    let m = real_if r.second (drop (r.skip + v) b) in
    q
    ∙ ap (λ (k : ℕ). put x (to + (r.skip + k)) (real_if r.second (drop (r.skip + k) b))) e
    ∙ ap (λ (l : List ℕ). put l (to + (r.skip + v)) m) p
    ∙ put_next out (to + r.skip) v (to + (r.skip + v)) n m (length-real_if r.first (drop r.skip b)) (omega arith)
