-- Each outcome of the definition is right: a word that is answered is read as the double, and where none is, the double's size is no real's. Assumes nothing.
use mathlib.Core.Path.{◌≡◌, refl, sym, ap, ◌∙◌, subst}
use mathlib.Core.Logic.{◌⊎◌, inl, inr}
use mathlib.Core.Bool.{Bool, true, false, cond}
use Prim.Native.Nat.{ℕ, zero, suc, ◌+◌, ◌-◌, ◌*◌, ◌/◌, ◌%◌, ◌^◌, ◌<◌, ◌≤◌}
use native.Mathlib.Nat.{zero-lt-suc, zero-mul, mul-one, mul_assoc, mul_comm, mul-pos, mul-mod_left, mod-add-div', eq_of_mul-eq-mul_right, le-mul_of_pos_right, mul-le-mul, lt_irrefl, lt_of_lt_of_le, eq-zero-or-pos}
use native.Mathlib.Omega.{arith}
use borrow.Author.Tests.{ltb-true, ltb-false, eqb-true, eqb-false, le-leb}
use lib.Dec.{ltb, leb, eqb, lit<, lit≤}
use lib.IntN.{pos}
use lib.Pow.{pow-add, pow_pos, pow_mono}
use lib.Ieee.{Float, nan, inf, fin, binary64, odd, of_bits, of_fields, to_bits}
use lib.Ieee.Bits.{of_bits-to_bits}
use lib.Ieee.Exact.{odd_sign}
use Rattle.std.specs.Prelude.{Option, Some, None}
use Rattle.cgx_spec.specs.declared.Real.TheVariants.{Exact}
use Rattle.cgx_spec.specs.Reals.{exponent, mantissa, value, answer, answer_value, normal, IsNormal, Means}
use Rattle.cgx_spec.proofs.RealLaws.{pack-lt, exponent-pack, mantissa-pack}
use Rattle.cgx_spec.proofs.DoubleLaws.{sixteens, exact-zero, double-zero, answer-exact, exact-means}
use Rattle.cgx_spec.proofs.RealAnswers.{real-promises}
use Rattle.doubles.specs.Doubles.{field, significand, real, raised, lowered, real_from}
use Rattle.doubles.specs.Demand.{FromDoubleDemand}
use Rattle.doubles.proofs.Made.{up_lt, down_lt, from_zero, from-none, from-ones, from_low, from-high}
use Rattle.doubles.proofs.Equal.{whole, whole-lt, bits-value, bits_small, bits-ones, read-size, read_as}

record Good (b w : ℕ) : Type 0 where
  reads : answer w ≡ Exact (of_bits binary64 b)
  is : IsNormal w
  fits : w < 2 ^ 64

abbrev Unread : ℕ → Type 0
Unread b = (w : ℕ) → answer w ≡ Exact (of_bits binary64 b) → ⊥

abbrev Right : ℕ → Option ℕ → Type 0
Right b (Some w) = Good b w
Right b None = Unread b

-- ---- a word with the double's sign

-- where m is 2 ^ 52 at least or e is 0, and m * 16 ^ e has the double's size
good : (b x e m : ℕ) → field b ≡ suc x → x < 2046 → e < 128 → m < 2 ^ 56 → 0 < m → (e ≡ 0) ⊎ (2 ^ 52 ≤ m) → m * 16 ^ e * 2 ^ 762 ≡ significand b * 2 ^ x → Good b (real b e m)
good b x e m f l h k p n q =
    record {
      reads = read_as b e m s h k (mul-pos p (rw (sixteens e) (pow_pos (4 * e)))) (rw q (bits-value b x f l));
      is = record { full = rw (exponent-pack s e m h k, mantissa-pack s e m h k) n; bare = λ z. absurd (above p (sym (mantissa-pack s e m h k) ∙ z)) };
      fits = pack-lt s e m h k;
    }
  where
    s : Bool
    s = leb (2 ^ 63) b

    above : {a : ℕ} → 0 < a → a ≡ 0 → ⊥
    above {a} p z = omega arith

-- ---- times 2 ^ k

parts : (n k : ℕ) → n * 2 ^ (k % 4) * 16 ^ (k / 4) ≡ n * 2 ^ k
parts n k =
    let q : k % 4 + 4 * (k / 4) ≡ k = omega arith in
    ap (λ (x : ℕ). n * 2 ^ (k % 4) * x) (sixteens (k / 4)) ∙ mul_assoc n (2 ^ (k % 4)) (2 ^ (4 * (k / 4))) ∙ ap (λ (x : ℕ). n * x) (sym (pow-add 2 (k % 4) (4 * (k / 4))) ∙ ap (λ (x : ℕ). 2 ^ x) q)

shift : (n k j : ℕ) → n * 2 ^ k * 2 ^ j ≡ n * 2 ^ (k + j)
shift n k j = mul_assoc n (2 ^ k) (2 ^ j) ∙ ap (λ (x : ℕ). n * x) (sym (pow-add 2 k j))

too_large : (b k w : ℕ) → 128 ≤ k / 4 → whole w ≡ significand b * 2 ^ k → ⊥
too_large b k w h q =
    let l : 512 ≤ k = omega arith in
    let p : 2 ^ 512 ≤ 2 ^ k = pow_mono l in
    let n : 2 ^ 52 ≤ significand b = omega arith in
    lt_irrefl (whole w) (lt_of_lt_of_le (whole-lt w) (subst (λ (x : ℕ). 2 ^ 564 ≤ x) (sym q) (mul-le-mul n p)))

raised-right : (b k : ℕ) → field b ≡ suc (k + 762) → k + 762 < 2046 → Right b (raised b k)
unfolding raised
raised-right b k f l = go (ltb (k / 4) 128) refl
  where
    go : (t : Bool) → ltb (k / 4) 128 ≡ t → Right b (cond t (Some (real b (k / 4) (significand b * 2 ^ (k % 4)))) None)
    go true q =
        let m : 2 ^ 52 ≤ significand b * 2 ^ (k % 4) = least (le-mul_of_pos_right (significand b) (pow_pos (k % 4))) in
        good b (k + 762) (k / 4) (significand b * 2 ^ (k % 4)) f l (ltb-true (k / 4) 128 q) (up_lt b k) (omega arith) (inr m)
        (ap (λ (x : ℕ). x * 2 ^ 762) (parts (significand b) k) ∙ shift (significand b) k 762)
      where
        least : {a : ℕ} → 2 ^ 52 + b % 2 ^ 52 ≤ a → 2 ^ 52 ≤ a
        least {a} h = omega arith
    go false q = λ w a. too_large b k w (ltb-false (k / 4) 128 q)
        (eq_of_mul-eq-mul_right (2 ^ 762) (pow_pos 762) (whole w) (significand b * 2 ^ k)
        (read-size w (of_bits binary64 b) (leb (2 ^ 63) b) (significand b * 2 ^ (k + 762)) (bits-value b (k + 762) f l) a ∙ sym (shift (significand b) k 762)))

-- ---- by 2 ^ k

module _ (b k x : ℕ) (f : field b ≡ suc x) (t : k + x ≡ 762) where
  below : x < 2046
  below = omega arith

  -- a whole number of this size has the product n with 2 ^ k
  sized : (m : ℕ) → m * 2 ^ 762 ≡ m * 2 ^ k * 2 ^ x
  sized m = ap (λ (j : ℕ). m * 2 ^ j) (sym t) ∙ sym (shift m k x)

  rest : (w : ℕ) → answer w ≡ Exact (of_bits binary64 b) → significand b % 2 ^ k ≡ 0
  rest w a =
      let q : whole w * 2 ^ k ≡ significand b =
      eq_of_mul-eq-mul_right (2 ^ x) (pow_pos x) (whole w * 2 ^ k) (significand b)
      (sym (sized (whole w)) ∙ read-size w (of_bits binary64 b) (leb (2 ^ 63) b) (significand b * 2 ^ x) (bits-value b x f below) a) in
      ap (λ (n : ℕ). n % 2 ^ k) (sym q) ∙ mul-mod_left (whole w) (2 ^ k)

  lowered-right : Right b (lowered b k)
  unfolding lowered
  lowered-right = go (eqb (significand b % 2 ^ k) 0) refl
    where
      m : ℕ
      m = significand b / 2 ^ k

      go : (t : Bool) → eqb (significand b % 2 ^ k) 0 ≡ t → Right b (cond t (Some (real b 0 m)) None)
      go true q =
          let n : m * 2 ^ k ≡ significand b = no-rest (eqb-true (significand b % 2 ^ k) 0 q) (mod-add-div' (significand b) (2 ^ k)) in
          good b x 0 m f below (lit< tt) (down_lt b k) (some m n (eq-zero-or-pos m)) (inl refl)
          (ap (λ (j : ℕ). j * 2 ^ 762) (mul-one m) ∙ sized m ∙ ap (λ (j : ℕ). j * 2 ^ x) n)
        where
          no-rest : {a c d : ℕ} → a ≡ 0 → a + c ≡ d → c ≡ d
          no-rest {a} {c} {d} z e = omega arith

          some : (m : ℕ) → m * 2 ^ k ≡ significand b → (m ≡ 0) ⊎ (0 < m) → 0 < m
          some m e (inl z) = absurd (let n : 0 ≡ significand b = sym (zero-mul (2 ^ k)) ∙ ap (λ (j : ℕ). j * 2 ^ k) (sym z) ∙ e in omega arith)
          some m e (inr p) = p
      go false q = λ w a. eqb-false (significand b % 2 ^ k) 0 q (rest w a)

-- ---- no exponent bits, or all of them

zero_right : Good 0 0
unfolding of_bits of_fields odd
zero_right =
    record {
      reads = answer-exact 0 (fin false 0 (pos 0)) (exact-zero 0 (unfold mantissa in refl)) (double-zero 0 (unfold mantissa in refl));
      is = record { full = inl (unfold exponent in refl); bare = λ z. refl };
      fits = lit< tt;
    }

small-none : (b : ℕ) → (b ≡ 0 → ⊥) → field b ≡ 0 → Unread b
small-none b n f w a = go (b % 2 ^ 52) refl
  where
    s : Bool
    s = leb (2 ^ 63) b

    little : (m d p : ℕ) → m * p ≡ suc d * 1 → suc d < 2 ^ 52 → 2 ^ 52 ≤ p → ⊥
    little zero d p q h l = let z : 0 ≡ suc d * 1 = sym (zero-mul p) ∙ q in omega arith
    little (suc m) d p q h l = let u : p ≤ p * suc m = le-mul_of_pos_right p (zero-lt-suc m) in let v : p * suc m ≡ suc d * 1 = mul_comm p (suc m) ∙ q in omega arith

    go : (d : ℕ) → b % 2 ^ 52 ≡ d → ⊥
    go zero e =
        let t : s ≡ true = le-leb (2 ^ 63) b (omega arith) in
        let z : of_bits binary64 b ≡ fin true 0 (pos 0) = bits_small b f ∙ (rw (e, t) (unfold odd in refl)) in
        (real-promises.exact-means w (of_bits binary64 b) a).2 z
    go (suc d) e =
        let q = bits_small b f ∙ ap (λ (t : ℕ). odd 53 s t 0 1074) e in
        little (whole w) d (2 ^ 762) (read-size w (odd 53 s (suc d) 0 1074) s (suc d * 1) (odd_sign 53 s (suc d) 0 1074) (a ∙ ap Exact q)) (omega arith) (lit≤ tt)

ones_none : (b : ℕ) → field b ≡ 2047 → Unread b
ones_none b f w a = go (eqb (b % 2 ^ 52) 0) (subst (λ (x : Float). Means x (value w)) (bits-ones b f) (exact-means w (of_bits binary64 b) a))
  where
    go : (t : Bool) → Means (cond t (inf (leb (2 ^ 63) b)) nan) (value w) → ⊥
    go true h = h
    go false h = h

-- ---- all outcomes

right : (b : ℕ) → Right b (real_from b)
right b = zeros (eq-zero-or-pos b)
  where
    sides : (b ≡ 0 → ⊥) → (field b ≡ 0 → ⊥) → (field b ≡ 2047 → ⊥) → (t : Bool) → ltb (field b) 763 ≡ t → Right b (real_from b)
    sides n z o true q =
        let h : field b < 763 = ltb-true (field b) 763 q in
        subst (Right b) (from_low b n z o h) (lowered-right b (763 - field b) (field b - 1) (omega arith) (omega arith))
    sides n z o false q =
        let h : 763 ≤ field b = ltb-false (field b) 763 q in
        subst (Right b) (from-high b n z o h) (raised-right b (field b - 763) (omega arith) (omega arith))

    ones : (b ≡ 0 → ⊥) → (field b ≡ 0 → ⊥) → (t : Bool) → eqb (field b) 2047 ≡ t → Right b (real_from b)
    ones n z true q = let o = eqb-true (field b) 2047 q in subst (Right b) (from-ones b n z o) (ones_none b o)
    ones n z false q = sides n z (eqb-false (field b) 2047 q) (ltb (field b) 763) refl

    fields : (b ≡ 0 → ⊥) → (t : Bool) → eqb (field b) 0 ≡ t → Right b (real_from b)
    fields n true q = let z = eqb-true (field b) 0 q in subst (Right b) (from-none b n z) (small-none b n z)
    fields n false q = ones n (eqb-false (field b) 0 q) (eqb (field b) 2047) refl

    zeros : (b ≡ 0) ⊎ (0 < b) → Right b (real_from b)
    zeros (inl z) = subst (Right b) (from_zero b z) (rw z zero_right)
    zeros (inr p) = fields (λ z. omega arith) (eqb (field b) 0) refl

-- ---- the statements

some : (b w : ℕ) → real_from b ≡ Some w → Good b w
some b w q = subst (Right b) q (right b)

none : (b : ℕ) → real_from b ≡ None → Unread b
none b q = subst (Right b) q (right b)

empty : (b : ℕ) → Unread b → real_from b ≡ None
empty b n = go (real_from b) refl
  where
    go : (r : Option ℕ) → real_from b ≡ r → real_from b ≡ None
    go (Some w) q = absurd (n w (some b w q).reads)
    go None q = q

-- the double of an exact real gives back its normal real: it has the same value, and the normal real of a value is one
back : (w : ℕ) (x : Float) → answer w ≡ Exact x → real_from (to_bits binary64 x) ≡ Some (normal w)
back w x a = go (real_from b) refl
  where
    b : ℕ
    b = to_bits binary64 x

    same : Exact (of_bits binary64 b) ≡ answer w
    same = ap Exact (of_bits-to_bits binary64 x (real-promises.exact-means w x a).0) ∙ sym a

    go : (r : Option ℕ) → real_from b ≡ r → real_from b ≡ Some (normal w)
    go (Some v) q =
        let g = some b v q in
        q ∙ ap Some (real-promises.normal-only w v g.fits g.is (sym (real-promises.answer-value v) ∙ ap answer_value (g.reads ∙ same) ∙ real-promises.answer-value w))
    go None q = absurd (none b q w (sym same))

pub from-double-demand : FromDoubleDemand
from-double-demand =
    record {
      sound = λ b w q. (some b w q).reads;
      normal-is = λ b w q. ((some b w q).is, (some b w q).fits);
      complete = none;
      empty = empty;
      back = back;
    }
