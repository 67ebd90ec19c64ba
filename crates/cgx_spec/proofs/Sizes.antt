-- Rule 8 by sizes: the fields of a record fit exactly when its size is one that 01 gives for its kind.
use Rattle.std.specs.Prelude.{None, Option, Some}
use mathlib.Core.Path.{◌≡◌, refl, sym, ap, ap₂, ◌∙◌, subst}
use mathlib.Core.Bool.{Bool, true, false, ◌&&◌, cond}
use mathlib.Core.List.{List, [], ◌∷◌}
use Prim.Native.Nat.{ℕ, zero, suc, ◌+◌, ◌*◌, ◌/◌, ◌%◌, ◌-◌, ◌≤◌, ◌<◌, min}
use native.Mathlib.Nat.{sub-zero, mul_comm, mul-le-mul_left, le-div_iff_mul-le, div-le_of_le-mul}
use native.Mathlib.Omega.{arith}
use lib.Dec.{T, leb, eqb, leb→le, le→leb, eqb→eq}
use lib.ListN.{length, drop, length-take, length-drop}
use Rattle.cgx_spec.specs.declared.Kind.{Kind}
use Rattle.cgx_spec.specs.declared.Kind.TheVariants.{Library, Struct, Cprpty, Property, Layer, Box, Poly, Wire, Text, Sref, Endlib}
use Rattle.cgx_spec.specs.Fields.{Test, any, ordered, closed, Field, real, positive, date, short, longs, string, optional, absent, units, fits, width, pieces, lengths_fit}
use Rattle.cgx_spec.specs.Kinds.{layout}
use Rattle.cgx_spec.specs.Records.{Rec, size, pieces_of}
use Rattle.cgx_spec.specs.Restated.{has_angle, has_magnif, has_array, name_at, repeated, good_size, scales_at, counts_at}
use Rattle.cgx_spec.proofs.Lists.{T→true, true→T, ¬T→false, false→¬T, eq→eqb, bool-ext, and-true, and_assoc, and_left, and_right, and_both, units-is, to-units}

-- ---- the fields fit by the length of the body alone

pub fits_all : List Field → ℕ → Bool
fits_all [] n = eqb n 0
fits_all (f ∷ fs) n = fits f (min (width f n) n) && fits_all fs (n - width f n)

pub lengths-is : (fs : List Field) (b : List ℕ) → lengths_fit (pieces fs b) ≡ fits_all fs (length b)
unfolding lengths_fit pieces fits fits_all
lengths-is [] b = and-true (eqb (length b) 0)
lengths-is (f ∷ fs) b =
    let w = width f (length b) in
    ap₂ ◌&&◌ (ap (fits f) (length-take w b)) (lengths-is fs (drop w b) ∙ ap (fits_all fs) (length-drop w b))

-- ---- fields of a fixed length

record Fixed (f : Field) (w : ℕ) : Type 0 where
  takes : (n : ℕ) → width f n ≡ w
  fits-if : (n : ℕ) → fits f (min w n) ≡ leb w n

fixed-eqb : (w n : ℕ) → eqb (min w n) w ≡ leb w n
fixed-eqb w n = bool-ext (eqb (min w n) w) (leb w n) (λ t. le→leb w n (omega (arith, eqb→eq (min w n) w t))) (λ t. eq→eqb (min w n) w (omega (arith, leb→le w n t)))

fixed-positive : Fixed positive 8
unfolding width fits
fixed-positive = record { takes = λ n. refl; fits-if = fixed-eqb 8 }

fixed-real : Fixed real 8
unfolding width fits
fixed-real = record { takes = λ n. refl; fits-if = fixed-eqb 8 }

fixed-date : Fixed date 8
unfolding width fits
fixed-date = record { takes = λ n. refl; fits-if = fixed-eqb 8 }

fixed-short : Fixed short 2
unfolding width fits
fixed-short = record { takes = λ n. refl; fits-if = fixed-eqb 2 }

fixed-absent : Fixed absent 0
unfolding width fits
fixed-absent = record { takes = λ n. refl; fits-if = fixed-eqb 0 }

units-least : (u lo hi w : ℕ) → T (units u lo hi w) → lo ≤ w / u
units-least u lo hi w t = (units-is u lo hi w t).1

fixed-long : (t : Test) → Fixed (longs 1 1 1 t) 4
unfolding width fits
fixed-long t = record { takes = λ n. refl; fits-if = λ n. bool-ext (units 4 1 1 (min 4 n)) (leb 4 n) (λ h. le→leb 4 n (omega (arith, units-least 4 1 1 (min 4 n) h))) (λ h. let l : 4 ≤ n = leb→le 4 n h in to-units 4 1 1 (min 4 n) (omega arith) (omega arith) (omega arith)) }

fixed-point : (t : Test) → Fixed (longs 2 1 1 t) 8
unfolding width fits
fixed-point t = record { takes = λ n. refl; fits-if = λ n. bool-ext (units 8 1 1 (min 8 n)) (leb 8 n) (λ h. le→leb 8 n (omega (arith, units-least 8 1 1 (min 8 n) h))) (λ h. let l : 8 ≤ n = leb→le 8 n h in to-units 8 1 1 (min 8 n) (omega arith) (omega arith) (omega arith)) }

-- a field and the length that it always has
record Always (f : Field) : Type 0 where
  long : ℕ
  is : Fixed f long

abbrev has : {f : Field} (w : ℕ) → Fixed f w → Option (Always f)
has w h = Some (record { long = w; is = h })

always : (f : Field) → Option (Always f)
always real = has 8 fixed-real
always positive = has 8 fixed-positive
always date = has 8 fixed-date
always short = has 2 fixed-short
always (longs zero lo hi t) = None
always (longs (suc zero) zero hi t) = None
always (longs (suc zero) (suc zero) zero t) = None
always (longs (suc zero) (suc zero) (suc zero) t) = has 4 (fixed-long t)
always (longs (suc zero) (suc zero) (suc (suc hi)) t) = None
always (longs (suc zero) (suc (suc lo)) hi t) = None
always (longs (suc (suc zero)) zero hi t) = None
always (longs (suc (suc zero)) (suc zero) zero t) = None
always (longs (suc (suc zero)) (suc zero) (suc zero) t) = has 8 (fixed-point t)
always (longs (suc (suc zero)) (suc zero) (suc (suc hi)) t) = None
always (longs (suc (suc zero)) (suc (suc lo)) hi t) = None
always (longs (suc (suc (suc n))) lo hi t) = None
always string = None
always optional = None
always absent = has 0 fixed-absent

-- ---- a beginning of fixed length

-- the fields are `a` bytes of fixed fields, and then those of `rest`
record Prefix (fs : List Field) (a : ℕ) (rest : List Field) : Type 0 where
  is : (n : ℕ) → fits_all fs n ≡ (leb a n && fits_all rest (n - a))

prefix-end : (rest : List Field) → Prefix rest 0 rest
prefix-end rest = record { is = λ n. let e : leb 0 n ≡ true = T→true (le→leb 0 n (omega arith)) in rw (e, sub-zero n) }

two-tests : (w a n : ℕ) → (leb w n && leb a (n - w)) ≡ leb (w + a) n
two-tests w a n =
    bool-ext (leb w n && leb a (n - w)) (leb (w + a) n)
    (λ t.
    let l₁ = leb→le w n (and_left (leb w n) (leb a (n - w)) t) in
    let l₂ = leb→le a (n - w) (and_right (leb w n) (leb a (n - w)) t) in
    le→leb (w + a) n (omega arith))
    (λ t. let l = leb→le (w + a) n t in and_both (leb w n) (leb a (n - w)) (le→leb w n (omega arith)) (le→leb a (n - w) (omega arith)))

prefix-more : {f : Field} {w : ℕ} {fs : List Field} {a : ℕ} {rest : List Field} → Fixed f w → Prefix fs a rest → Prefix (f ∷ fs) (w + a) rest
unfolding fits_all
prefix-more {f} {w} {fs} {a} {rest} h p =
    record {
      is = λ n.
          let e : n - w - a ≡ n - (w + a) = omega arith in
          ap (λ (v : ℕ). fits f (min v n) && fits_all fs (n - v)) (h.takes n) ∙ ap₂ ◌&&◌ (h.fits-if n) (p.is (n - w))
          ∙ and_assoc (leb w n) (leb a (n - w)) (fits_all rest (n - w - a))
          ∙ ap₂ ◌&&◌ (two-tests w a n) (ap (fits_all rest) e);
    }

-- the fields of fixed length that a list begins with
record Leads (fs : List Field) : Type 0 where
  long : ℕ
  rest : List Field
  is : Prefix fs long rest

abbrev lead : (f : Field) (fs : List Field) → Option (Always f) → Leads fs → Leads (f ∷ fs)
lead f fs None l = record { long = 0; rest = f ∷ fs; is = prefix-end (f ∷ fs) }
lead f fs (Some a) l = record { long = a.long + l.long; rest = l.rest; is = prefix-more a.is l.is }

leading : (fs : List Field) → Leads fs
leading [] = record { long = 0; rest = []; is = prefix-end [] }
leading (f ∷ fs) = lead f fs (always f) (leading fs)

-- ---- what ends a record

string-end : (n : ℕ) → n % 2 ≡ 0 → n ≤ 65534 → fits_all (string ∷ []) n ≡ leb 2 n
unfolding fits width fits_all
string-end n e l =
    bool-ext (units 2 1 32767 (min n n) && eqb (n - n) 0) (leb 2 n)
    (λ t. le→leb 2 n (omega (arith, units-least 2 1 32767 (min n n) (and_left (units 2 1 32767 (min n n)) (eqb (n - n) 0) t))))
    (λ t.
    let h : 2 ≤ n = leb→le 2 n t in
    and_both (units 2 1 32767 (min n n)) (eqb (n - n) 0) (to-units 2 1 32767 (min n n) (omega arith) (omega arith) (omega arith)) (eq→eqb (n - n) 0 (omega arith)))

optional-end : (n : ℕ) → n % 2 ≡ 0 → n ≤ 65534 → fits_all (optional ∷ []) n ≡ true
unfolding fits width fits_all
optional-end n e l =
    T→true (and_both (units 2 0 32767 (min n n)) (eqb (n - n) 0) (to-units 2 0 32767 (min n n) (omega arith) (omega arith) (omega arith)) (eq→eqb (n - n) 0 (omega arith)))

longs-end : (m lo hi : ℕ) (t : Test) (n : ℕ) → eqb lo hi ≡ false → fits_all (longs m lo hi t ∷ []) n ≡ units (4 * m) lo hi n
unfolding fits width fits_all
longs-end m lo hi t n e =
    let p : min n n ≡ n = omega arith in
    let q : eqb (n - n) 0 ≡ true = T→true (eq→eqb (n - n) 0 (omega arith)) in
    rw (e, p, q) (and-true (units (4 * m) lo hi n))

-- a record of fixed fields and a string
with-string : (fs : List Field) (a : ℕ) → Prefix fs a (string ∷ []) → a % 2 ≡ 0 → (n : ℕ) → n % 2 ≡ 0 → n ≤ 65534 → fits_all fs n ≡ leb (a + 2 + 4) (4 + n)
with-string fs a p z n e l =
    p.is n ∙ ap (λ (b : Bool). leb a n && b) (string-end (n - a) (omega arith) (omega arith)) ∙ two-tests a 2 n
    ∙ bool-ext (leb (a + 2) n) (leb (a + 2 + 4) (4 + n))
    (λ t. le→leb (a + 2 + 4) (4 + n) (omega (arith, leb→le (a + 2) n t)))
    (λ t. le→leb (a + 2) n (omega (arith, leb→le (a + 2 + 4) (4 + n) t)))

-- from lo to hi units after `base` bytes
units-repeated : (u : ℕ) → 0 < u → (base lo hi n : ℕ) → units u lo hi n ≡ repeated base u lo hi (base + n)
units-repeated u p base lo hi n = bool-ext (units u lo hi n) (repeated base u lo hi (base + n)) there back
  where
    low : Bool
    low = leb (base + u * lo) (base + n)

    top : Bool
    top = leb (base + n) (base + u * hi)

    none_over : ℕ → Bool
    none_over m = eqb (m % u) 0

    k : base + n - base ≡ n
    k = omega arith

    there : T (units u lo hi n) → T (repeated base u lo hi (base + n))
    there t =
        let r = units-is u lo hi n t in
        let a : u * lo ≤ u * (n / u) = mul-le-mul_left u r.1 in
        let b : u * (n / u) ≤ u * hi = mul-le-mul_left u r.2 in
        let c : u * (n / u) ≡ n / u * u = mul_comm u (n / u) in
        let z : T (none_over n) = and_left (none_over n) (leb lo (n / u)) (and_left (none_over n && leb lo (n / u)) (leb (n / u) hi) t) in
        and_both (low && top) (none_over (base + n - base))
        (and_both low top (le→leb (base + u * lo) (base + n) (omega arith)) (le→leb (base + n) (base + u * hi) (omega arith)))
        (subst (λ (m : ℕ). T (none_over m)) (sym k) z)

    back : T (repeated base u lo hi (base + n)) → T (units u lo hi n)
    back t =
        let s = and_left (low && top) (none_over (base + n - base)) t in
        let l = leb→le (base + u * lo) (base + n) (and_left low top s) in
        let h = leb→le (base + n) (base + u * hi) (and_right low top s) in
        let z = subst (λ (m : ℕ). T (none_over m)) k (and_right (low && top) (none_over (base + n - base)) t) in
        let c : lo * u ≡ u * lo = mul_comm lo u in
        to-units u lo hi n (eqb→eq (n % u) 0 z) ((le-div_iff_mul-le p).1 (omega arith)) (div-le_of_le-mul u (omega arith))

-- a beginning of at least 4 bytes, and then 8 bytes of which the first 4 are those: of a WIRE
after-width : (n : ℕ) → (leb 4 n && units 8 1 8190 (n - 4)) ≡ repeated 8 8 1 8190 (4 + n)
after-width n = go (leb 4 n) refl
  where
    go : (b : Bool) → leb 4 n ≡ b → (b && units 8 1 8190 (n - 4)) ≡ repeated 8 8 1 8190 (4 + n)
    go true e =
        let l : 4 ≤ n = leb→le 4 n (true→T e) in
        let q : 8 + (n - 4) ≡ 4 + n = omega arith in
        units-repeated 8 (omega arith) 8 1 8190 (n - 4) ∙ ap (repeated 8 8 1 8190) q
    go false e =
        let l : leb (8 + 8 * 1) (4 + n) ≡ false = ¬T→false (λ t. false→¬T e (le→leb 4 n (omega (arith, leb→le 16 (4 + n) t)))) in
        rw l

-- ---- an SREF by its flags

-- flags of which the bits for an angle, a magnif and an array are these
abbrev pub flagged : Bool → Bool → Bool → ℕ
flagged x y z = cond x 1 0 + cond y 2 0 + cond z 8 0

-- what holds of its fields, and of the offsets of its scales, its counts and its name, with each of these flags, holds with any
module _ (P : List Field → List ℕ → List ℕ → ℕ → Type 0) where
  abbrev pub OfFlags : ℕ → Type 0
  OfFlags fl = P (layout Sref fl) (scales_at Sref fl) (counts_at Sref fl) (name_at fl)

  pub by_flags : ((x y z : Bool) → OfFlags (flagged x y z)) → (fl : ℕ) → OfFlags fl
  unfolding layout scales_at counts_at
  by_flags h fl = go (has_angle fl) refl (has_magnif fl) refl (has_array fl) refl
    where
      go : (x : Bool) → has_angle fl ≡ x → (y : Bool) → has_magnif fl ≡ y → (z : Bool) → has_array fl ≡ z → OfFlags fl
      go true ex true ey true ez = rw (ex, ey, ez) (h true true true)
      go true ex true ey false ez = rw (ex, ey, ez) (h true true false)
      go true ex false ey true ez = rw (ex, ey, ez) (h true false true)
      go true ex false ey false ez = rw (ex, ey, ez) (h true false false)
      go false ex true ey true ez = rw (ex, ey, ez) (h false true true)
      go false ex true ey false ez = rw (ex, ey, ez) (h false true false)
      go false ex false ey true ez = rw (ex, ey, ez) (h false false true)
      go false ex false ey false ez = rw (ex, ey, ez) (h false false false)

-- ---- the sizes of each kind

sref-size : (n : ℕ) → n % 2 ≡ 0 → n ≤ 65530 → (x y z : Bool) → OfFlags (λ fs ss cs at. fits_all fs n ≡ leb (at + 2) (4 + n)) (flagged x y z)
unfolding layout leading always
sref-size n e l true true true = with-string (layout Sref 11) 48 (leading _).is refl n e (omega arith)
sref-size n e l true true false = with-string (layout Sref 3) 24 (leading _).is refl n e (omega arith)
sref-size n e l true false true = with-string (layout Sref 9) 40 (leading _).is refl n e (omega arith)
sref-size n e l true false false = with-string (layout Sref 1) 16 (leading _).is refl n e (omega arith)
sref-size n e l false true true = with-string (layout Sref 10) 40 (leading _).is refl n e (omega arith)
sref-size n e l false true false = with-string (layout Sref 2) 16 (leading _).is refl n e (omega arith)
sref-size n e l false false true = with-string (layout Sref 8) 32 (leading _).is refl n e (omega arith)
sref-size n e l false false false = with-string (layout Sref 0) 8 (leading _).is refl n e (omega arith)

fits-size : (k : Kind) (fl n : ℕ) → n % 2 ≡ 0 → n ≤ 65530 → fits_all (layout k fl) n ≡ good_size k fl (4 + n)
unfolding layout good_size leading always
fits-size Library fl n e l = with-string (layout Library fl) 32 (leading _).is refl n e (omega arith)
fits-size Struct fl n e l = with-string (layout Struct fl) 16 (leading _).is refl n e (omega arith)
fits-size Cprpty fl n e l = with-string (layout Cprpty fl) 4 (leading _).is refl n e (omega arith)
fits-size Property fl n e l = with-string (layout Property fl) 4 (leading _).is refl n e (omega arith)
fits-size Layer fl n e l =
    let p : Prefix (layout Layer fl) 4 (optional ∷ []) = (leading _).is in
    p.is n ∙ ap (λ (b : Bool). leb 4 n && b) (optional-end (n - 4) (omega arith) (omega arith)) ∙ and-true (leb 4 n)
    ∙ bool-ext (leb 4 n) (leb 8 (4 + n)) (λ t. le→leb 8 (4 + n) (omega (arith, leb→le 4 n t))) (λ t. le→leb 4 n (omega (arith, leb→le 8 (4 + n) t)))
fits-size Box fl n e l = longs-end 4 1 4095 ordered n refl ∙ units-repeated 16 (omega arith) 4 1 4095 n
fits-size Poly fl n e l = longs-end 2 4 8191 closed n refl ∙ units-repeated 8 (omega arith) 4 4 8191 n
fits-size Wire fl n e l =
    let p : Prefix (layout Wire fl) 4 (longs 2 1 8190 any ∷ []) = (leading _).is in
    p.is n ∙ ap (λ (b : Bool). leb 4 n && b) (longs-end 2 1 8190 any (n - 4) refl) ∙ after-width n
fits-size Text fl n e l = with-string (layout Text fl) 12 (leading _).is refl n e (omega arith)
fits-size Sref fl n e l = by_flags (λ fs ss cs at. fits_all fs n ≡ leb (at + 2) (4 + n)) (sref-size n e l) fl
fits-size Endlib fl n e l = unfold fits_all in (bool-ext (eqb n 0) (eqb (4 + n) 4) (λ t. eq→eqb (4 + n) 4 (omega (arith, eqb→eq n 0 t))) (λ t. eq→eqb n 0 (omega (arith, eqb→eq (4 + n) 4 t))))

pub sizes-agree : (k : Kind) (r : Rec) → length r.body % 2 ≡ 0 → length r.body ≤ 65530 → lengths_fit (pieces_of k r) ≡ good_size k r.flags (size r)
unfolding pieces_of
sizes-agree k r e l = lengths-is (layout k r.flags) r.body ∙ fits-size k r.flags (length r.body) e l
