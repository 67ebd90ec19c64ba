-- Laws of the numbers: what `digits` writes `number` reads back, and the other way; the same for two's complement. Assumes nothing.
use mathlib.Core.Path.{◌≡◌, refl, sym, ap, ap₂, ◌∙◌}
use mathlib.Core.Bool.{Bool, true, false, cond}
use mathlib.Core.List.{List, [], ◌∷◌}
use Prim.Native.Nat.{ℕ, zero, suc, ◌+◌, ◌*◌, ◌-◌, ◌/◌, ◌%◌, ◌^◌, ◌≤◌, ◌<◌}
use native.Mathlib.Nat.{mod-lt, mod-eq_of_lt, zero-lt-suc, add-zero, mul-one, pow-suc, pow-succ', mod-one, zero-add, zero-mul, mul_assoc, add-mul, add_assoc, mul-le-mul_right}
use native.Mathlib.Omega.{arith}
use borrow.Author.Tests.{lt-ltb, le-ltb, ltb-true, ltb-false}
use lib.Arith.{mod-mul}
use lib.Dec.{ltb}
use lib.IntN.{ℤ, pos, negsuc, sub_ℕ}
use lib.ListN.{length}
use Rattle.cgx_spec.specs.Numbers.{Bytes, after, number, digits, twos, short_of, long_of, longs_of, InRange, untwos, short_bytes, long_bytes}

-- ---- digits

pub length_digits : (n x : ℕ) → length (digits n x) ≡ n
length_digits zero x = refl
length_digits (suc zero) x = refl
length_digits (suc (suc n)) x = ap suc (length_digits (suc n) x)

pub digits-bytes : (n x : ℕ) → Bytes (digits n x)
digits-bytes zero x i = zero-lt-suc 255
digits-bytes (suc zero) x zero = mod-lt x (zero-lt-suc 255)
digits-bytes (suc zero) x (suc i) = zero-lt-suc 255
digits-bytes (suc (suc n)) x zero = mod-lt (x / 256 ^ suc n) (zero-lt-suc 255)
digits-bytes (suc (suc n)) x (suc i) = digits-bytes (suc n) x i

pow-pos256 : (n : ℕ) → 0 < 256 ^ n
pow-pos256 zero = zero-lt-suc 0
pow-pos256 (suc n) = rw (pow-suc 256 n) (let h : 0 < 256 ^ n = pow-pos256 n in omega arith)

after-digits : (n a x : ℕ) → after a (digits n x) ≡ a * 256 ^ n + x % 256 ^ n
after-digits zero a x = sym (ap (λ (k : ℕ). k + x % 1) (mul-one a) ∙ ap (λ (k : ℕ). a + k) (mod-one x) ∙ add-zero a)
after-digits (suc zero) a x = refl
after-digits (suc (suc n)) a x =
    let p = 256 ^ suc n in
    let d = x / p % 256 in
    let ih : after (a * 256 + d) (digits (suc n) x) ≡ (a * 256 + d) * p + x % p = after-digits (suc n) (a * 256 + d) x in
    let e : x % 256 ^ suc (suc n) ≡ d * p + x % p = ap (λ (k : ℕ). x % k) (pow-succ' 256 (suc n)) ∙ mod-mul x (zero-lt-suc 255) (pow-pos256 (suc n)) in
    ih ∙ step a d p (x % p) ∙ ap (λ (k : ℕ). a * k + (d * p + x % p)) (sym (pow-succ' 256 (suc n))) ∙ ap (λ (k : ℕ). a * 256 ^ suc (suc n) + k) (sym e)
  where
    step : (a d p r : ℕ) → (a * 256 + d) * p + r ≡ a * (256 * p) + (d * p + r)
    step a d p r = simp (add-mul, mul_assoc, add_assoc)

-- the n low bytes of x are read back as x without the bits above them
pub number_digits : (n x : ℕ) → number (digits n x) ≡ x % 256 ^ n
number_digits n x = after-digits n 0 x ∙ ap (λ (k : ℕ). k + x % 256 ^ n) (zero-mul (256 ^ n)) ∙ zero-add (x % 256 ^ n)

-- ---- numbers

after_same : (x y : List ℕ) (a b : ℕ) → Bytes x → Bytes y → length x ≡ length y → after a x ≡ after b y → (a ≡ b) × (x ≡ y)
after_same [] [] a b hx hy l e = (e, refl)
after_same [] (y ∷ ys) a b hx hy l e = absurd (omega arith)
after_same (x ∷ xs) [] a b hx hy l e = absurd (omega arith)
after_same (x ∷ xs) (y ∷ ys) a b hx hy l e =
    let r = after_same xs ys (a * 256 + x) (b * 256 + y) (λ i. hx (suc i)) (λ i. hy (suc i)) (omega arith) e in
    let q : a * 256 + x ≡ b * 256 + y = r.0 in
    let hx₀ : x < 256 = hx 0 in
    let hy₀ : y < 256 = hy 0 in
    let p : x ≡ y = omega arith in
    (omega arith, ap₂ ◌∷◌ p r.1)

-- as many bytes with the same number are the same bytes
pub number_same : (x y : List ℕ) → Bytes x → Bytes y → length x ≡ length y → number x ≡ number y → x ≡ y
number_same x y hx hy l e = (after_same x y 0 0 hx hy l e).1

after-bound : (x : List ℕ) (a : ℕ) → Bytes x → after a x < suc a * 256 ^ length x
after-bound [] a hx = omega arith
after-bound (x ∷ xs) a hx =
    let r : after (a * 256 + x) xs < suc (a * 256 + x) * 256 ^ length xs = after-bound xs (a * 256 + x) (λ i. hx (suc i)) in
    let hx₀ : x < 256 = hx 0 in
    rw (pow-suc 256 (length xs)) (omega (arith, mul-le-mul_right (256 ^ length xs) hx₀))

pub number_bound : (x : List ℕ) (n : ℕ) → Bytes x → length x ≡ n → number x < 256 ^ n
number_bound x n hx l = rw (← l) (let h : after 0 x < 1 * 256 ^ length x = after-bound x 0 hx in omega arith)

-- bytes are the digits of their number
pub digits_number : (x : List ℕ) (n : ℕ) → Bytes x → length x ≡ n → digits n (number x) ≡ x
digits_number x n hx l =
    number_same (digits n (number x)) x (digits-bytes n (number x)) hx (length_digits n (number x) ∙ sym l)
    (number_digits n (number x) ∙ mod-eq_of_lt (number_bound x n hx l))

-- ---- two's complement

pub twos-low : (h n : ℕ) → n < h → twos h n ≡ pos n
unfolding twos
twos-low h n l = rw (lt-ltb n h l)

pub twos-high : (h n : ℕ) → h ≤ n → n < 2 * h → twos h n ≡ negsuc (2 * h - suc n)
unfolding twos
twos-high h n l k =
    ap (λ (b : Bool). cond b (pos n) (sub_ℕ n (2 * h))) (le-ltb n h l)
    ∙ ap (λ (b : Bool). cond b (negsuc (2 * h - suc n)) (pos (n - 2 * h))) (lt-ltb n (2 * h) k)

-- the number that is written for what n means is n
pub untwos-twos : (h n : ℕ) → n < 2 * h → untwos h (twos h n) ≡ n
untwos-twos h n k = go (ltb n h) refl
  where
    go : (b : Bool) → ltb n h ≡ b → untwos h (twos h n) ≡ n
    go true e = ap (untwos h) (twos-low h n (ltb-true n h e)) ∙ (unfold untwos in refl)
    go false e = ap (untwos h) (twos-high h n (ltb-false n h e) k) ∙ (unfold untwos in (omega (arith, ltb-false n h e)))

-- equal numbers in two's complement have the same bits
pub twos-same : (h n m : ℕ) → n < 2 * h → m < 2 * h → twos h n ≡ twos h m → n ≡ m
twos-same h n m hn hm e = sym (untwos-twos h n hn) ∙ ap (untwos h) e ∙ untwos-twos h m hm

pub twos-untwos : (h : ℕ) (z : ℤ) → InRange h z → twos h (untwos h z) ≡ z
unfolding untwos
twos-untwos h (pos n) r = twos-low h n r
twos-untwos h (negsuc n) r = twos-high h (2 * h - suc n) (omega arith) (omega arith) ∙ ap negsuc (omega arith)

untwos-bound : (h : ℕ) (z : ℤ) → InRange h z → untwos h z < 2 * h
unfolding untwos
untwos-bound h (pos n) r = omega arith
untwos-bound h (negsuc n) r = omega arith

-- ---- shorts and longs, from bytes and back

pub short_back : (z : ℤ) → InRange (2 ^ 15) z → short_of (short_bytes z) ≡ z
unfolding short_of short_bytes
short_back z r =
    ap (twos (2 ^ 15)) (number_digits 2 (untwos (2 ^ 15) z) ∙ mod-eq_of_lt (untwos-bound (2 ^ 15) z r)) ∙ twos-untwos (2 ^ 15) z r

pub long-back : (z : ℤ) → InRange (2 ^ 31) z → long_of (long_bytes z) ≡ z
unfolding long_of long_bytes
long-back z r =
    ap (twos (2 ^ 31)) (number_digits 4 (untwos (2 ^ 31) z) ∙ mod-eq_of_lt (untwos-bound (2 ^ 31) z r)) ∙ twos-untwos (2 ^ 31) z r

pub short-bytes-back : (b : List ℕ) → Bytes b → length b ≡ 2 → short_bytes (short_of b) ≡ b
unfolding short_of short_bytes
short-bytes-back b h l = ap (digits 2) (untwos-twos (2 ^ 15) (number b) (number_bound b 2 h l)) ∙ digits_number b 2 h l

pub long-bytes-back : (b : List ℕ) → Bytes b → length b ≡ 4 → long_bytes (long_of b) ≡ b
unfolding long_of long_bytes
long-bytes-back b h l = ap (digits 4) (untwos-twos (2 ^ 31) (number b) (number_bound b 4 h l)) ∙ digits_number b 4 h l

-- equal shorts, or longs, are the same bytes
pub short-same : (x y : List ℕ) → Bytes x → Bytes y → length x ≡ 2 → length y ≡ 2 → short_of x ≡ short_of y → x ≡ y
short-same x y hx hy lx ly e = sym (short-bytes-back x hx lx) ∙ ap short_bytes e ∙ short-bytes-back y hy ly

pub long_same : (x y : List ℕ) → Bytes x → Bytes y → length x ≡ 4 → length y ≡ 4 → long_of x ≡ long_of y → x ≡ y
long_same x y hx hy lx ly e = sym (long-bytes-back x hx lx) ∙ ap long_bytes e ∙ long-bytes-back y hy ly

-- as many longs as there are fours of bytes
pub longs-count : (b : List ℕ) → length (longs_of b) ≡ length b / 4
unfolding longs_of
longs-count [] = refl
longs-count (a ∷ []) = refl
longs-count (a ∷ b ∷ []) = refl
longs-count (a ∷ b ∷ c ∷ []) = refl
longs-count (a ∷ b ∷ c ∷ d ∷ bs) = let h : length (longs_of bs) ≡ length bs / 4 = longs-count bs in omega arith
