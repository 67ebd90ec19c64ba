-- A copy by words of eight bytes: x is the buffer with the first i bytes of src stored, and w the number of the next word, or of the last.
-- Assumes nothing.
use mathlib.Core.Path.{◌≡◌, refl, sym, ap, ◌∙◌, subst}
use mathlib.Core.List.{List, [], ◌++◌, append_assoc}
use Prim.Native.Nat.{ℕ, ◌+◌, ◌*◌, ◌-◌, ◌≤◌, ◌<◌}
use native.Mathlib.Omega.{arith}
use lib.ListN.{length, take, drop, length-append, length-drop, take-append-drop}
use lib.Seq.{length-take-le, take_at, drop_at}
use Rattle.cgx_spec.specs.Numbers.{Bytes, number, digits}
use Rattle.cgx_spec.proofs.Lists.{Bytes-take, Bytes-drop}
use Rattle.cgx_spec.proofs.Cuts.{ending}
use Rattle.cgx_spec.proofs.NumberLaws.{digits_number}
use Rattle.buffers.specs.Put.{put}
use Rattle.buffers.proofs.Puts.{put-nil, put_next, put-overlap}

-- ---- the loop over the words of all but the last byte of src: before is stored, rest is still to come

pub record Ahead (l src : List ℕ) (at k : ℕ) (rest x : List ℕ) : Type 0 where
  pub before : List ℕ
  pub end : List ℕ
  pub cut : src ≡ before ++ (rest ++ end)
  pub size : length before ≡ 8 * k
  pub one : length end ≡ 1
  pub stored : x ≡ put l at before

pub ahead-first : (l src : List ℕ) (at m : ℕ) {k : ℕ} {rest : List ℕ} → k ≡ 0 → rest ≡ take m src → m + 1 ≡ length src → Ahead l src at k rest l
ahead-first l src at m e r q =
    record {
      before = [];
      end = drop m src;
      cut = sym (ap (λ (y : List ℕ). y ++ drop m src) r ∙ take-append-drop m src);
      size = omega (arith, e);
      one = length-drop m src ∙ omega (arith, q);
      stored = sym (put-nil l at);
    }

pub ahead-next : (l src : List ℕ) (at k : ℕ) (rest x word left : List ℕ) {i k' w : ℕ} {x' : List ℕ} → Bytes src → Ahead l src at k rest x
    → rest ≡ word ++ left → length word ≡ 8 → i ≡ k → k' ≡ k + 1 → w ≡ number word → x' ≡ put x (at + 8 * i) (digits 8 w) → Ahead l src at k' left x'
ahead-next l src at k rest x word left {w = w} bytes a r n p q d s =
    let split : src ≡ a.before ++ (word ++ (left ++ a.end)) =
    a.cut ∙ ap (λ (y : List ℕ). a.before ++ y) (ap (λ (y : List ℕ). y ++ a.end) r ∙ append_assoc word left a.end) in
    let cut-out : take 8 (drop (8 * k) src) ≡ word =
    ap (take 8) (ap (drop (8 * k)) split ∙ drop_at a.before (word ++ (left ++ a.end)) (8 * k) a.size) ∙ take_at word (left ++ a.end) 8 n in
    let whole : digits 8 (number word) ≡ word = digits_number word 8 (subst Bytes cut-out (Bytes-take 8 (drop (8 * k) src) (Bytes-drop (8 * k) src bytes))) n in
    record {
      before = a.before ++ word;
      end = a.end;
      cut = split ∙ sym (append_assoc a.before word (left ++ a.end));
      size = length-append a.before word ∙ omega (arith, a.size, n, q);
      one = a.one;
      stored =
          s
          ∙ ap (λ (j : ℕ). put x (at + 8 * j) (digits 8 w)) p
          ∙ ap (put x (at + 8 * k)) (ap (digits 8) d ∙ whole)
          ∙ ap (λ (y : List ℕ). put y (at + 8 * k) word) a.stored
          ∙ put_next l at (8 * k) (at + 8 * k) a.before word a.size refl;
    }

-- ---- the last word

module _ (l x src : List ℕ) (bytes : Bytes src) (at i : ℕ) (e : x ≡ put l at (take i src)) where
  word_back : (from : ℕ) {w n : ℕ} → w ≡ number (take n (drop from src)) → n ≡ 8 → from + 8 ≤ length src → digits 8 w ≡ take n (drop from src)
  word_back from {n = n} q m h =
      ap (digits 8) q
      ∙ digits_number (take n (drop from src)) 8 (Bytes-take n (drop from src) (Bytes-drop from src bytes))
      (length-take-le n (drop from src) (omega (arith, length-drop from src)) ∙ m)

  pub word-last : (from : ℕ) {w : ℕ} → w ≡ number (take (length src - from) (drop from src)) → from + 8 ≡ length src → from ≤ i → i ≤ length src
      → put x (at + from) (digits 8 w) ≡ put l at src
  word-last from q h g k =
      let m : length src - from ≡ 8 = omega arith in
      ap (put x (at + from)) (word_back from q m (omega arith) ∙ sym (ending src from))
      ∙ ap (λ (y : List ℕ). put y (at + from) (drop from src)) e
      ∙ put-overlap l src at i from g k

pub ahead-last : (l src : List ℕ) (at k : ℕ) (rest x : List ℕ) {w : ℕ} → Bytes src → Ahead l src at k rest x → length rest < 8 → 8 ≤ length src
    → w ≡ number (take (length src - (length src - 8)) (drop (length src - 8) src)) → put x (at + (length src - 8)) (digits 8 w) ≡ put l at src
ahead-last l src at k rest x bytes a h m q =
    let n : length src ≡ 8 * k + (length rest + 1) =
    ap length a.cut ∙ length-append a.before (rest ++ a.end) ∙ omega (arith, a.size, a.one, length-append rest a.end) in
    let e : x ≡ put l at (take (8 * k) src) =
    a.stored ∙ ap (put l at) (sym (ap (take (8 * k)) a.cut ∙ take_at a.before (rest ++ a.end) (8 * k) a.size)) in
    word-last l x src bytes at (8 * k) e (length src - 8) q (omega arith) (omega (arith, n, h)) (omega (arith, n))
