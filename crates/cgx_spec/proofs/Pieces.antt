-- The normal form of a field and of a body: same length, same rules kept, same meaning; and equal meanings give equal bytes.
use mathlib.Core.Path.{◌≡◌, refl, sym, ap, ap₂, ◌∙◌}
use mathlib.Core.Bool.{Bool, true, false, not, ◌&&◌, ◌||◌, cond}
use mathlib.Core.List.{List, [], ◌∷◌, ◌++◌, map, append-nil}
use Prim.Native.Nat.{ℕ, ◌+◌, ◌*◌, ◌/◌}
use native.Mathlib.Nat.{le_refl, mul_comm}
use native.Mathlib.Omega.{arith}
use lib.Dec.{T, eqb, eqb→eq}
use lib.ListN.{length, take, drop, length-append, take-append-drop}
use lib.Seq.{length-take-le, take_at, drop_at}
use Rattle.cgx_spec.specs.Numbers.{Bytes}
use Rattle.cgx_spec.specs.Fields.{Field, real, positive, date, short, longs, string, optional, absent, units, fits, width, rule_of, good, exactly, value, normal, Piece, pieces, lengths_fit, keeps, values, normal_bytes}
use Rattle.cgx_spec.proofs.RealLaws.{normal_real-length, normal_real-bytes, normal_real-value, normal_real-positive}
use Rattle.cgx_spec.proofs.Lists.{true→T, units-is, every-cons, Bytes-take, Bytes-drop, Bytes-append}

-- ---- one field

pub normal-length : (f : Field) (b : List ℕ) → T (fits f (length b)) → length (normal f b) ≡ length b
unfolding normal fits
normal-length real b h = normal_real-length b ∙ sym (eqb→eq (length b) 8 h)
normal-length positive b h = normal_real-length b ∙ sym (eqb→eq (length b) 8 h)
normal-length date b h = refl
normal-length short b h = refl
normal-length (longs n lo hi t) b h = refl
normal-length string b h = refl
normal-length optional b h = refl
normal-length absent b h = refl

pub normal-bytes : (f : Field) (b : List ℕ) → Bytes b → Bytes (normal f b)
unfolding normal
normal-bytes real b h = normal_real-bytes b
normal-bytes positive b h = normal_real-bytes b
normal-bytes date b h = h
normal-bytes short b h = h
normal-bytes (longs n lo hi t) b h = h
normal-bytes string b h = h
normal-bytes optional b h = h
normal-bytes absent b h = h

pub normal-good : (f : Field) (b : List ℕ) → Bytes b → T (fits f (length b)) → good f (normal f b) ≡ good f b
unfolding normal fits good
normal-good real b hb h = refl
normal-good positive b hb h = normal_real-positive b
normal-good date b hb h = refl
normal-good short b hb h = refl
normal-good (longs n lo hi t) b hb h = refl
normal-good string b hb h = refl
normal-good optional b hb h = refl
normal-good absent b hb h = refl

pub normal-value : (f : Field) (b : List ℕ) → Bytes b → T (fits f (length b)) → value f (normal f b) ≡ value f b
unfolding normal fits value
normal-value real b hb h = ap (λ z. exactly z) (normal_real-value b)
normal-value positive b hb h = ap (λ z. exactly z) (normal_real-value b)
normal-value date b hb h = refl
normal-value short b hb h = refl
normal-value (longs n lo hi t) b hb h = refl
normal-value string b hb h = refl
normal-value optional b hb h = refl
normal-value absent b hb h = refl

-- ---- a body

-- a piece of a body: bytes, of a length that its field may have
abbrev pub Fit : List Piece → Type 0
Fit [] = Unit {0}
Fit (p ∷ ps) = Bytes p.bytes × T (fits p.field (length p.bytes)) × Fit ps

abbrev pub normal_piece : Piece → Piece
normal_piece p = record { field = p.field; bytes = normal p.field p.bytes }

pub longs-full : (n lo hi : ℕ) (b : List ℕ) (z : Bool) → eqb lo hi ≡ z → T (units (4 * n) lo hi (length (take (cond z (4 * n * lo) (length b)) b))) → length (take (cond z (4 * n * lo) (length b)) b) ≡ cond z (4 * n * lo) (length b)
longs-full n lo hi b true e h =
    let m = length (take (4 * n * lo) b) in
    let u = units-is (4 * n) lo hi m h in
    let l : lo ≡ hi = eqb→eq lo hi (true→T e) in
    let q : m / (4 * n) ≡ lo = omega arith in
    u.0 ∙ ap (λ (x : ℕ). x * (4 * n)) q ∙ mul_comm lo (4 * n)
longs-full n lo hi b false e h = length-take-le (length b) b (le_refl _)

-- a field that fits has taken all the bytes that it asks for
pub full : (f : Field) (b : List ℕ) → T (fits f (length (take (width f (length b)) b))) → length (take (width f (length b)) b) ≡ width f (length b)
unfolding fits width
full real b h = eqb→eq _ 8 h
full positive b h = eqb→eq _ 8 h
full date b h = eqb→eq _ 8 h
full short b h = eqb→eq _ 2 h
full (longs n lo hi t) b h = longs-full n lo hi b (eqb lo hi) refl h
full string b h = length-take-le (length b) b (le_refl _)
full optional b h = length-take-le (length b) b (le_refl _)
full absent b h = refl

abbrev fits_in : Piece → Bool
fits_in p = fits p.field (length p.bytes)

pub fit : (fs : List Field) (b : List ℕ) → Bytes b → T (lengths_fit (pieces fs b)) → Fit (pieces fs b)
unfolding lengths_fit pieces
fit [] b hb h = (hb, (every-cons fits_in (record { field = absent; bytes = b }) [] h).0, tt)
fit (f ∷ fs) b hb h =
    let w = width f (length b) in
    let e = every-cons fits_in (record { field = f; bytes = take w b }) (pieces fs (drop w b)) h in
    (Bytes-take w b hb, e.0, fit fs (drop w b) (Bytes-drop w b hb) e.1)

pub length-normal_bytes : (fs : List Field) (b : List ℕ) → Fit (pieces fs b) → length (normal_bytes (pieces fs b)) ≡ length b
unfolding pieces normal_bytes normal
length-normal_bytes [] b h = ap length (append-nil b)
length-normal_bytes (f ∷ fs) b h =
    let w = width f (length b) in
    let p = take w b in
    let e₁ : length (normal f p) ≡ length p = normal-length f p h.1 in
    let e₂ : length (normal_bytes (pieces fs (drop w b))) ≡ length (drop w b) = length-normal_bytes fs (drop w b) h.2 in
    length-append (normal f p) (normal_bytes (pieces fs (drop w b))) ∙ ap₂ ◌+◌ e₁ e₂ ∙ sym (length-append p (drop w b)) ∙ ap length (take-append-drop w b)

pub Bytes-normal_bytes : (ps : List Piece) → Fit ps → Bytes (normal_bytes ps)
unfolding normal_bytes
Bytes-normal_bytes [] h = λ i. omega arith
Bytes-normal_bytes (p ∷ ps) h = Bytes-append (normal p.field p.bytes) (normal_bytes ps) (normal-bytes p.field p.bytes h.0) (Bytes-normal_bytes ps h.2)

-- the normal form of a body is cut into the normal forms of its fields
pub pieces-normal : (fs : List Field) (b : List ℕ) → Fit (pieces fs b) → pieces fs (normal_bytes (pieces fs b)) ≡ map normal_piece (pieces fs b)
unfolding pieces normal_bytes normal
pieces-normal [] b h = ap (λ (c : List ℕ). record { field = absent; bytes = c } ∷ []) (append-nil b)
pieces-normal (f ∷ fs) b h =
    let w = width f (length b) in
    let p = take w b in
    let q = normal_bytes (pieces fs (drop w b)) in
    let n = normal f p in
    let e₀ : length (n ++ q) ≡ length b = length-normal_bytes (f ∷ fs) b h in
    let e₁ : length n ≡ w = normal-length f p h.1 ∙ full f b h.1 in
    let e₂ : pieces fs q ≡ map normal_piece (pieces fs (drop w b)) = pieces-normal fs (drop w b) h.2 in
    rw (e₀, take_at n q w e₁, drop_at n q w e₁, e₂)

pub lengths_fit-normal : (ps : List Piece) → Fit ps → lengths_fit (map normal_piece ps) ≡ lengths_fit ps
unfolding lengths_fit
lengths_fit-normal [] h = refl
lengths_fit-normal (p ∷ ps) h = ap₂ ◌&&◌ (ap (fits p.field) (normal-length p.field p.bytes h.1)) (lengths_fit-normal ps h.2)

pub keeps-normal : (n : ℕ) (ps : List Piece) → Fit ps → keeps n (map normal_piece ps) ≡ keeps n ps
unfolding keeps
keeps-normal n [] h = refl
keeps-normal n (p ∷ ps) h =
    ap₂ (λ (a b : Bool). (not (eqb n (rule_of p.field)) || a) && b) (normal-good p.field p.bytes h.0 h.1) (keeps-normal n ps h.2)

pub values-normal : (ps : List Piece) → Fit ps → values (map normal_piece ps) ≡ values ps
unfolding values
values-normal [] h = refl
values-normal (p ∷ ps) h = ap₂ ◌∷◌ (normal-value p.field p.bytes h.0 h.1) (values-normal ps h.2)
