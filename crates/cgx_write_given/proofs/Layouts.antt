-- The items of a call, stored one after another, against the fields of its kind: cut into fields the body is those items again, and so the rules on its fields
-- are the rules on the items. Assumes nothing.
use mathlib.Core.Path.{◌≡◌, refl, sym, ap, ap₂, ◌∙◌}
use mathlib.Core.Bool.{Bool, true, false, not, ◌&&◌, ◌||◌, cond}
use mathlib.Core.List.{List, [], ◌∷◌, ◌++◌, map, append-nil}
use Prim.Native.Nat.{ℕ, suc, ◌+◌, ◌*◌, ◌/◌, ◌%◌, ◌≤◌}
use native.Mathlib.Nat.{mul-div-mul_left, mul_left_comm, zero-lt-suc, div-add-mod', le_refl}
use native.Mathlib.Omega.{arith}
use lib.Dec.{T, leb, eqb, le→leb, eqb→eq}
use lib.IntN.{ℤ}
use lib.ListN.{length, length-append}
use lib.Seq.{take_at, drop_at, take_all, drop-length}
use Rattle.cgx_spec.specs.declared.Kind.{Kind}
use Rattle.cgx_spec.specs.declared.Kind.TheVariants.{Library, Struct, Cprpty, Property, Layer, Box, Poly, Wire, Text, Sref, Endlib}
use Rattle.cgx_spec.specs.Numbers.{Bytes, short_bytes}
use Rattle.cgx_spec.specs.Strings.{padded}
use Rattle.cgx_spec.specs.Fields.{any, ordered, closed, Test, Field, real, positive, date, short, longs, string, optional, absent, missing, units, fits, width, rule_of, good, value, normal, Piece, pieces, join, lengths_fit, keeps, values, normal_bytes}
use Rattle.cgx_spec.specs.Kinds.{angle, magnif, array, only_if, layout}
use Rattle.cgx_spec.proofs.Lists.{T→true, and_left, and_right, bool-ext, eq→eqb, to-units, Bytes-append, Bytes-nil}
use Rattle.cgx_spec.proofs.RealLaws.{normal_real-length}
use Rattle.buffers.specs.Put.{longs_bytes}
use Rattle.buffers.proofs.Puts.{length-longs}
use Rattle.buffers.proofs.Padding.{length-padded}
use Rattle.cgx_write_given.specs.Given.{Item, means, date_bytes, stored, groups, enough, keeping, pairwise}
use Rattle.cgx_write_given.specs.Typed.{Typed, a_real, a_scale, a_date, a_short, a_list, a_text, a_name, no_name, not_there, AllTyped}
use Rattle.cgx_write_given.proofs.Items.{kept-law, value-law, normal-law, even-law, bytes-law}

-- ---- layouts: fields of fixed width, and at most one more

pub data Fixed : Field → ℕ → Type 0 where
  f-real : Fixed real 8
  f-scale : Fixed positive 8
  f-date : Fixed date 8
  f-short : Fixed short 2
  f-long : {t : Test} → Fixed (longs 1 1 1 t) 4
  f-point : {t : Test} → Fixed (longs 2 1 1 t) 8
  f-absent : Fixed absent 0

-- the fields of a record, after b bytes
pub data Shape : ℕ → List Field → Type 0 where
  ends : {b : ℕ} → Shape b []
  fixed : {b n : ℕ} {f : Field} {fs : List Field} → Fixed f n → Shape (b + n) fs → Shape b (f ∷ fs)
  ends-text : {b : ℕ} → Shape b (string ∷ [])
  ends-name : {b : ℕ} → Shape b (optional ∷ [])
  -- as many groups as a record can hold are not too many
  ends-many : {b n lo hi : ℕ} {t : Test} → eqb lo hi ≡ false → ((w : ℕ) → b + w ≤ 65530 → w / (4 * suc n) ≤ hi) → Shape b (longs (suc n) lo hi t ∷ [])

only : {f : Field} {n : ℕ} (b : Bool) → Fixed f n → Fixed (only_if b f) (cond b n 0)
only true f = f
only false f = f-absent

pub shape : (k : Kind) (fl : ℕ) → Shape 0 (layout k fl)
unfolding layout
shape Library fl = fixed f-scale (fixed f-scale (fixed f-date (fixed f-date ends-text)))
shape Struct fl = fixed f-date (fixed f-date ends-text)
shape Cprpty fl = fixed f-long ends-text
shape Property fl = fixed f-long ends-text
shape Layer fl = fixed f-short (fixed f-short ends-name)
shape Box fl = ends-many {b = 0} {n = 3} {lo = 1} {hi = 4095} {t = ordered} refl (λ w h. omega arith)
shape Poly fl = ends-many {b = 0} {n = 1} {lo = 4} {hi = 8191} {t = closed} refl (λ w h. omega arith)
shape Wire fl = fixed f-long (ends-many {b = 4} {n = 1} {lo = 1} {hi = 8190} {t = any} refl (λ w h. omega arith))
shape Text fl = fixed f-long (fixed f-long (fixed f-long ends-text))
shape Sref fl =
    fixed f-long (fixed f-long (fixed (only (angle fl) f-real) (fixed (only (magnif fl) f-scale) (fixed (only (array fl) f-long) (fixed (only (array fl) f-long) (fixed (only (array fl) f-point) (fixed (only (array fl) f-point) ends-text)))))))
shape Endlib fl = ends

fixed-length : {f : Field} {i : Item} {n : ℕ} → Fixed f n → Typed f i → length (stored i) ≡ n
unfolding stored date_bytes short_bytes
fixed-length f-real (a_real {b = b}) = normal_real-length b
fixed-length f-scale (a_scale {b = b}) = normal_real-length b
fixed-length f-date (a_date h) = refl
fixed-length f-short (a_short h) = refl
fixed-length f-long (a_list {zs = zs} h e) = let q = length-longs zs in let p : length zs ≡ 1 = e refl in omega arith
fixed-length f-point (a_list {zs = zs} h e) = let q = length-longs zs in let p : length zs ≡ 2 = e refl in omega arith
fixed-length f-absent not_there = refl

fixed-width : {f : Field} {n : ℕ} (left : ℕ) → Fixed f n → width f left ≡ n
unfolding width
fixed-width left f-real = refl
fixed-width left f-scale = refl
fixed-width left f-date = refl
fixed-width left f-short = refl
fixed-width left f-long = refl
fixed-width left f-point = refl
fixed-width left f-absent = refl

fixed-fits : {f : Field} {n : ℕ} → Fixed f n → fits f n ≡ true
unfolding fits
fixed-fits f-real = refl
fixed-fits f-scale = refl
fixed-fits f-date = refl
fixed-fits f-short = refl
fixed-fits f-long = refl
fixed-fits f-point = refl
fixed-fits f-absent = refl

fixed-enough : {f : Field} {i : Item} {n : ℕ} → Fixed f n → Typed f i → enough f i ≡ true
unfolding enough groups
fixed-enough f-real a_real = refl
fixed-enough f-scale a_scale = refl
fixed-enough f-date (a_date h) = refl
fixed-enough f-short (a_short h) = refl
fixed-enough f-long (a_list h e) = rw (e refl)
fixed-enough f-point (a_list h e) = rw (e refl)
fixed-enough f-absent not_there = refl

-- ---- the pieces of what is stored

abbrev pub paired : List Field → List Item → List Piece
paired [] [] = record { field = absent; bytes = [] } ∷ []
paired [] (i ∷ is) = []
paired (f ∷ fs) [] = []
paired (f ∷ fs) (i ∷ is) = record { field = f; bytes = stored i } ∷ paired fs is

-- a last field that takes all that is left
last : (f : Field) (i : Item) → ((n : ℕ) → width f n ≡ n) → pieces (f ∷ []) (stored i ++ []) ≡ paired (f ∷ []) (i ∷ [])
unfolding pieces
last f i w =
    let b = stored i in
    rw (append-nil b, w (length b), take_all (length b) b (le_refl (length b)), drop-length b)

pub pieces_are : {b : ℕ} {fs : List Field} (is : List Item) → Shape b fs → AllTyped fs is → pieces fs (join stored is) ≡ paired fs is
unfolding pieces width
pieces_are [] ends t = refl
pieces_are [] (fixed x s) t = absurd t
pieces_are [] ends-text t = absurd t
pieces_are [] ends-name t = absurd t
pieces_are [] (ends-many e l) t = absurd t
pieces_are (i ∷ is) ends t = absurd t
pieces_are {b = b} (i ∷ is) (fixed {n = n} {f = f} {fs = fs} x s) t =
    let a = stored i in
    let r = join stored is in
    let q : length a ≡ n = fixed-length x t.0 in
    rw (fixed-width (length (a ++ r)) x, take_at a r n q, drop_at a r n q, pieces_are {b = b + n} is s t.1)
pieces_are (i ∷ j ∷ is) ends-text t = absurd t.1
pieces_are (i ∷ j ∷ is) ends-name t = absurd t.1
pieces_are (i ∷ j ∷ is) (ends-many e l) t = absurd t.1
pieces_are (i ∷ []) ends-text t = last string i (λ n. refl)
pieces_are (i ∷ []) ends-name t = last optional i (λ n. refl)
pieces_are (i ∷ []) (ends-many {n = n} {lo = lo} {hi = hi} {t = q} e l) t =
    last (longs (suc n) lo hi q) i (λ m. ap (λ (x : Bool). cond x (4 * suc n * lo) m) e)

-- ---- rule 8

text-fits : (t : List ℕ) (lo : ℕ) → lo ≤ 1 → length (padded t) ≤ 65530 → units 2 lo 32767 (length (padded t)) ≡ true
text-fits t lo l h = let e = length-padded t in let n = length (padded t) in T→true (to-units 2 lo 32767 n (omega arith) (omega arith) (omega arith))

-- groups of longs are groups of bytes
many-fits : (n lo hi : ℕ) (zs : List ℤ) → length (longs_bytes zs) / (4 * suc n) ≤ hi → units (4 * suc n) lo hi (length (longs_bytes zs)) ≡ (eqb (length zs % suc n) 0 && leb lo (length zs / suc n))
many-fits n lo hi zs h =
    let m = suc n in
    let l = length zs in
    let w = length (longs_bytes zs) in
    let u = 4 * suc n in
    let e : w ≡ 4 * l = length-longs zs in
    let d : w / u ≡ l / m = ap (λ (k : ℕ). k / u) e ∙ mul-div-mul_left l m (zero-lt-suc 3) in
    let a : l / m * m + l % m ≡ l = div-add-mod' l m in
    let c : w / u * u + w % u ≡ w = div-add-mod' w u in
    let f : l / m * u ≡ 4 * (l / m * m) = mul_left_comm (l / m) 4 m in
    let v : w / u * u ≡ l / m * u = ap (λ (k : ℕ). k * u) d in
    let r : w % u ≡ 4 * (l % m) = omega arith in
    let z : eqb (w % u) 0 ≡ eqb (l % m) 0 =
    bool-ext (eqb (w % u) 0) (eqb (l % m) 0)
    (λ t. let k = eqb→eq (w % u) 0 t in eq→eqb (l % m) 0 (omega arith))
    (λ t. let k = eqb→eq (l % m) 0 t in eq→eqb (w % u) 0 (omega arith)) in
    let y : leb (w / u) hi ≡ true = T→true (le→leb (w / u) hi h) in
    let x : leb lo (w / u) ≡ leb lo (l / m) = ap (leb lo) d in
    ap₂ ◌&&◌ (ap₂ ◌&&◌ z x) y ∙ all_true (eqb (l % m) 0 && leb lo (l / m))
  where
    all_true : (b : Bool) → (b && true) ≡ b
    all_true true = refl
    all_true false = refl

text-last : {i : Item} → Typed string i → length (stored i) ≤ 65530 → fits string (length (stored i)) ≡ enough string i
unfolding fits stored enough
text-last (a_text {t = t} b) h = text-fits t 1 (le_refl 1) h

name-last : {i : Item} → Typed optional i → length (stored i) ≤ 65530 → fits optional (length (stored i)) ≡ enough optional i
unfolding fits stored enough
name-last (a_name {t = t} b) h = text-fits t 0 (omega arith) h
name-last no_name h = refl

many-last : {i : Item} {n lo hi : ℕ} {t : Test} → Typed (longs (suc n) lo hi t) i → length (stored i) / (4 * suc n) ≤ hi → fits (longs (suc n) lo hi t) (length (stored i)) ≡ enough (longs (suc n) lo hi t) i
unfolding fits stored enough groups
many-last {n = n} {lo = lo} {hi = hi} (a_list {zs = zs} l e) h = many-fits n lo hi zs h

pub fit-law : {b : ℕ} {fs : List Field} (is : List Item) → Shape b fs → AllTyped fs is → b + length (join stored is) ≤ 65530 → lengths_fit (paired fs is) ≡ pairwise enough fs is
unfolding lengths_fit
fit-law [] ends t h = unfold fits in refl
fit-law [] (fixed x s) t h = absurd t
fit-law [] ends-text t h = absurd t
fit-law [] ends-name t h = absurd t
fit-law [] (ends-many e l) t h = absurd t
fit-law (i ∷ is) ends t h = absurd t
fit-law {b = b} (i ∷ is) (fixed {n = n} {f = f} {fs = fs} x s) t h =
    let q : length (stored i) ≡ n = fixed-length x t.0 in
    let k : b + n + length (join stored is) ≤ 65530 = omega (arith, length-append (stored i) (join stored is)) in
    ap₂ ◌&&◌ (ap (fits f) q ∙ fixed-fits x ∙ sym (fixed-enough x t.0)) (fit-law {b = b + n} is s t.1 k)
fit-law (i ∷ j ∷ is) ends-text t h = absurd t.1
fit-law (i ∷ j ∷ is) ends-name t h = absurd t.1
fit-law (i ∷ j ∷ is) (ends-many e l) t h = absurd t.1
fit-law (i ∷ []) ends-text t h = unfold fits in (ap (λ (x : Bool). x && true) (text-last t.0 (omega (arith, length-append (stored i) []))))
fit-law (i ∷ []) ends-name t h = unfold fits in (ap (λ (x : Bool). x && true) (name-last t.0 (omega (arith, length-append (stored i) []))))
fit-law (i ∷ []) (ends-many e l) t h =
    unfold fits in (ap (λ (x : Bool). x && true) (many-last t.0 (l (length (stored i)) (omega (arith, length-append (stored i) [])))))

-- ---- rules 9 to 12, meaning, normal form

pub keeps-law : (m : ℕ) (fs : List Field) (is : List Item) → AllTyped fs is → T (pairwise (keeping 11) fs is) → keeps (suc m) (paired fs is) ≡ pairwise (keeping (suc m)) fs is
unfolding keeps
keeps-law m [] [] t k = no-rule
  where
    or-true : (a : Bool) → (a || true) ≡ true
    or-true true = refl
    or-true false = refl

    no-rule : ((not (eqb (suc m) (rule_of absent)) || good absent []) && true) ≡ true
    no-rule = unfold good in (ap (λ (b : Bool). b && true) (or-true (not (eqb (suc m) (rule_of absent)))))
keeps-law m [] (i ∷ is) t k = absurd t
keeps-law m (f ∷ fs) [] t k = absurd t
keeps-law m (f ∷ fs) (i ∷ is) t k =
    ap₂ ◌&&◌ (sym (kept-law m t.0 (and_left (keeping 11 f i) (pairwise (keeping 11) fs is) k)))
    (keeps-law m fs is t.1 (and_right (keeping 11 f i) (pairwise (keeping 11) fs is) k))

pub values-law : (fs : List Field) (is : List Item) → AllTyped fs is → T (pairwise (keeping 11) fs is) → values (paired fs is) ≡ map means is ++ (missing ∷ [])
unfolding values
values-law [] [] t k = unfold value in refl
values-law [] (i ∷ is) t k = absurd t
values-law (f ∷ fs) [] t k = absurd t
values-law (f ∷ fs) (i ∷ is) t k =
    ap₂ ◌∷◌ (value-law t.0 (and_left (keeping 11 f i) (pairwise (keeping 11) fs is) k))
    (values-law fs is t.1 (and_right (keeping 11 f i) (pairwise (keeping 11) fs is) k))

pub normals-law : (fs : List Field) (is : List Item) → AllTyped fs is → normal_bytes (paired fs is) ≡ join stored is
unfolding normal_bytes
normals-law [] [] t = unfold normal in refl
normals-law [] (i ∷ is) t = absurd t
normals-law (f ∷ fs) [] t = absurd t
normals-law (f ∷ fs) (i ∷ is) t = ap₂ ◌++◌ (normal-law t.0) (normals-law fs is t.1)

-- ---- the body's bytes

pub body_bytes : (fs : List Field) (is : List Item) → AllTyped fs is → Bytes (join stored is)
body_bytes [] [] t = Bytes-nil
body_bytes [] (i ∷ is) t = absurd t
body_bytes (f ∷ fs) [] t = absurd t
body_bytes (f ∷ fs) (i ∷ is) t = Bytes-append (stored i) (join stored is) (bytes-law t.0) (body_bytes fs is t.1)

pub body-even : (fs : List Field) (is : List Item) → AllTyped fs is → length (join stored is) % 2 ≡ 0
body-even [] [] t = refl
body-even [] (i ∷ is) t = absurd t
body-even (f ∷ fs) [] t = absurd t
body-even (f ∷ fs) (i ∷ is) t =
    let a = even-law t.0 in
    let b = body-even fs is t.1 in
    let c = length-append (stored i) (join stored is) in
    omega arith
