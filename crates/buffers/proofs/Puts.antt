-- Laws of stores: callers use these in place of what `put` computes to. Assumes nothing.
use mathlib.Core.Path.{◌≡◌, refl, sym, ap, ◌∙◌}
use mathlib.Core.List.{List, [], ◌∷◌, ◌++◌, append_assoc}
use Prim.Native.Nat.{ℕ, zero, suc, ◌+◌, ◌*◌, ◌-◌, ◌≤◌, ◌<◌}
use native.Mathlib.Nat.{add-zero, zero-add}
use native.Mathlib.Omega.{arith}
use native.Mathlib.Numerals.{add-one}
use lib.IntN.{ℤ}
use lib.ListN.{length, get_or, take, drop, set, length-append, length-drop, take-append-drop}
use lib.Seq.{drop-cons, drop-length, sets, sets-eq, length-sets, set-set, set_comm, length-take-le, take-add, take_at, drop_at}
use Rattle.cgx_spec.specs.Numbers.{long_bytes}
use Rattle.buffers.specs.Put.{put, longs_bytes}

pub put-nil : (l : List ℕ) (at : ℕ) → put l at [] ≡ l
unfolding put
put-nil l at = refl

pub put_one : (l : List ℕ) (at v : ℕ) → set l at v ≡ put l at (v ∷ [])
unfolding put
put_one l at v = refl

pub put-cons : (l : List ℕ) (at v : ℕ) (vs : List ℕ) → put (set l at v) (suc at) vs ≡ put l at (v ∷ vs)
unfolding put
put-cons l at v vs = refl

pub put-length : (l : List ℕ) (at : ℕ) (vs : List ℕ) → length (put l at vs) ≡ length l
unfolding put
put-length l at vs = length-sets l at vs

-- what was before, the bytes, and what is after them
pub put_is : (l : List ℕ) (at : ℕ) (vs : List ℕ) → at + length vs ≤ length l → put l at vs ≡ take at l ++ vs ++ drop (at + length vs) l
unfolding put
put_is l at vs h = sets-eq vs l at h

-- ---- one store right after another

pub put_then : (l : List ℕ) (at : ℕ) (vs ws : List ℕ) → put (put l at vs) (at + length vs) ws ≡ put l at (vs ++ ws)
unfolding put
put_then l at [] ws = ap (λ (k : ℕ). sets l k ws) (add-zero at)
put_then l at (v ∷ vs) ws =
    ap (λ (k : ℕ). sets (sets (set l at v) (suc at) vs) k ws) (let e : at + suc (length vs) ≡ suc at + length vs = omega arith in e)
    ∙ put_then (set l at v) (suc at) vs ws

-- the same, with the length and the offset as the code has them
pub put_next : (l : List ℕ) (at n b : ℕ) (vs ws : List ℕ) → length vs ≡ n → b ≡ at + n → put (put l at vs) b ws ≡ put l at (vs ++ ws)
put_next l at n b vs ws e q = ap (λ (k : ℕ). put (put l at vs) k ws) (q ∙ ap (λ (k : ℕ). at + k) (sym e)) ∙ put_then l at vs ws

-- ---- one store inside another

set-sets : (l : List ℕ) (j i v : ℕ) (vs : List ℕ) → j < i → set (sets l i vs) j v ≡ sets (set l j v) i vs
set-sets l j i v [] h = refl
set-sets l j i v (w ∷ vs) h =
    set-sets (set l i w) j (suc i) v vs (omega arith) ∙ ap (λ (x : List ℕ). sets x (suc i) vs) (set_comm l i j w v (λ e. let q : i ≡ j = e in omega arith))

put_first : (l : List ℕ) (at v w : ℕ) (vs : List ℕ) → set (put l at (w ∷ vs)) at v ≡ put l at (v ∷ vs)
unfolding put
put_first l at v w vs = set-sets (set l at w) at (suc at) v vs (omega arith) ∙ ap (λ (x : List ℕ). sets x (suc at) vs) (set-set l at w v)

pub put-set : (l : List ℕ) (at i v : ℕ) (vs : List ℕ) → i < length vs → set (put l at vs) (at + i) v ≡ put l at (set vs i v)
unfolding put
put-set l at i v [] h = absurd (omega arith)
put-set l at zero v (w ∷ vs) h =
    ap (λ (k : ℕ). set (sets (set l at w) (suc at) vs) k v) (add-zero at) ∙ put_first l at v w vs
put-set l at (suc i) v (w ∷ vs) h =
    ap (λ (k : ℕ). set (sets (set l at w) (suc at) vs) k v) (let e : at + suc i ≡ suc at + i = omega arith in e)
    ∙ put-set (set l at w) (suc at) i v vs (omega arith)

pub put-within : (l : List ℕ) (at i : ℕ) (vs ws : List ℕ) → i + length ws ≤ length vs → put (put l at vs) (at + i) ws ≡ put l at (put vs i ws)
put-within l at i vs [] h = put-nil (put l at vs) (at + i) ∙ ap (put l at) (sym (put-nil vs i))
put-within l at i vs (w ∷ ws) h =
    let n : length (set vs i w) ≡ length vs = length-sets vs i (w ∷ []) in
    sym (put-cons (put l at vs) (at + i) w ws)
    ∙ ap (λ (x : List ℕ). put x (suc (at + i)) ws) (put-set l at i w vs (omega arith))
    ∙ ap (λ (k : ℕ). put (put l at (set vs i w)) k ws) (let e : suc (at + i) ≡ at + suc i = omega arith in e)
    ∙ put-within l at (suc i) (set vs i w) ws (omega arith)
    ∙ ap (put l at) (put-cons vs i w ws)

-- a store over as many bytes: x and z stay
pub put-over : (x y z ws : List ℕ) (i : ℕ) → length x ≡ i → length ws ≡ length y → put (x ++ (y ++ z)) i ws ≡ x ++ (ws ++ z)
put-over x y z ws i e q =
    let n : i + length ws ≤ length (x ++ (y ++ z)) = omega (arith, length-append x (y ++ z), length-append y z) in
    let a : drop (i + length ws) (x ++ (y ++ z)) ≡ z =
    ap (drop (i + length ws)) (sym (append_assoc x y z)) ∙ drop_at (x ++ y) z (i + length ws) (omega (arith, length-append x y)) in
    put_is (x ++ (y ++ z)) i ws n ∙ rw (take_at x (y ++ z) i e, a) (append_assoc x ws z)

-- a store after x
put-suc : (l : List ℕ) (v i : ℕ) (ws : List ℕ) → put (v ∷ l) (suc i) ws ≡ v ∷ put l i ws
unfolding put
put-suc l v i [] = refl
put-suc l v i (w ∷ ws) = put-suc (set l i w) v (suc i) ws

pub put-after : (x l : List ℕ) (i : ℕ) (ws : List ℕ) → put (x ++ l) (length x + i) ws ≡ x ++ put l i ws
put-after [] l i ws = ap (λ (k : ℕ). put l k ws) (zero-add i)
put-after (v ∷ x) l i ws =
    ap (λ (k : ℕ). put (v ∷ (x ++ l)) k ws) (let e : suc (length x) + i ≡ suc (length x + i) = omega arith in e)
    ∙ put-suc (x ++ l) v (length x + i) ws
    ∙ ap (λ (r : List ℕ). v ∷ r) (put-after x l i ws)

-- ---- one store over another that begins where it does, or before it

put-twice : (l : List ℕ) (at : ℕ) (vs ws : List ℕ) → length vs ≤ length ws → put (put l at vs) at ws ≡ put l at ws
unfolding put
put-twice l at [] ws h = refl
put-twice l at (v ∷ vs) [] h = absurd (omega arith)
put-twice l at (v ∷ vs) (w ∷ ws) h =
    ap (λ (x : List ℕ). sets x (suc at) ws) (put_first l at w v vs) ∙ put-twice (set l at w) (suc at) vs ws (omega arith)

-- the first i bytes of src, then all from j on
pub put-overlap : (l src : List ℕ) (at i j : ℕ) → j ≤ i → i ≤ length src → put (put l at (take i src)) (at + j) (drop j src) ≡ put l at src
put-overlap l src at i j h g =
    let x = take j src in
    let d = drop j src in
    let n = i - j in
    let e : i ≡ j + n = omega arith in
    let lx : length x ≡ j = length-take-le j src (omega arith) in
    let ld : length (take n d) ≡ n = length-take-le n d (omega (arith, length-drop j src)) in
    ap (λ (k : ℕ). put (put l at (take k src)) (at + j) d) e
    ∙ ap (λ (y : List ℕ). put (put l at y) (at + j) d) (take-add j n src)
    ∙ ap (λ (y : List ℕ). put y (at + j) d) (sym (put_next l at j (at + j) x (take n d) lx refl))
    ∙ put-twice (put l at x) (at + j) (take n d) d (omega (arith, length-drop j src))
    ∙ put_next l at j (at + j) x d lx refl
    ∙ ap (put l at) (take-append-drop j src)

-- ---- the turns of the loops over bytes and over longs

pub put_copy : (l src : List ℕ) (at i : ℕ) → i < length src → put (set l (at + i) (get_or src i 0)) (at + (i + 1)) (drop (i + 1) src) ≡ put l (at + i) (drop i src)
put_copy l src at i h =
    let q : at + (i + 1) ≡ suc (at + i) = omega arith in
    ap (λ (k : ℕ). put (set l (at + i) (get_or src i 0)) k (drop (i + 1) src)) q
    ∙ ap (λ (k : ℕ). put (set l (at + i) (get_or src i 0)) (suc (at + i)) (drop k src)) (add-one i)
    ∙ put-cons l (at + i) (get_or src i 0) (drop (suc i) src)
    ∙ ap (put l (at + i)) (sym (drop-cons src i 0 h))

pub put-end : (l src : List ℕ) (at i : ℕ) → length src ≤ i → i ≤ length src → put l (at + i) (drop i src) ≡ l
put-end l src at i g h =
    let q : i ≡ length src = omega arith in
    ap (λ (k : ℕ). put l (at + i) (drop k src)) q ∙ ap (put l (at + i)) (drop-length src) ∙ put-nil l (at + i)

length-long : (z : ℤ) → length (long_bytes z) ≡ 4
unfolding long_bytes
length-long z = refl

pub length-longs : (zs : List ℤ) → length (longs_bytes zs) ≡ 4 * length zs
unfolding longs_bytes
length-longs [] = refl
length-longs (z ∷ zs) = omega (arith, length-longs zs, length-append (long_bytes z) (longs_bytes zs), length-long z)

pub put-long-next : (l : List ℕ) (ns : List ℤ) (at i : ℕ) (d : ℤ) → i < length ns
    → put (put l (at + 4 * i) (long_bytes (get_or ns i d))) (at + 4 * (i + 1)) (longs_bytes (drop (i + 1) ns)) ≡ put l (at + 4 * i) (longs_bytes (drop i ns))
unfolding longs_bytes
put-long-next l ns at i d h =
    ap (λ (k : ℕ). put (put l (at + 4 * i) (long_bytes (get_or ns i d))) (at + 4 * (i + 1)) (longs_bytes (drop k ns))) (add-one i)
    ∙ put_next l (at + 4 * i) 4 (at + 4 * (i + 1)) (long_bytes (get_or ns i d)) (longs_bytes (drop (suc i) ns)) (length-long (get_or ns i d)) (omega arith)
    ∙ ap (λ (x : List ℤ). put l (at + 4 * i) (longs_bytes x)) (sym (drop-cons ns i d h))

pub put-longs-end : (l : List ℕ) (ns : List ℤ) (at i : ℕ) → length ns ≤ i → i ≤ length ns → put l at (longs_bytes (drop i ns)) ≡ l
unfolding longs_bytes
put-longs-end l ns at i g h =
    let q : i ≡ length ns = omega arith in
    ap (λ (k : ℕ). put l at (longs_bytes (drop k ns))) q ∙ ap (λ (x : List ℤ). put l at (longs_bytes x)) (drop-length ns) ∙ put-nil l at
