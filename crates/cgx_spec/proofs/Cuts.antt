-- A body cut at offsets, which is how code has it; and the room that its fields need. Assumes nothing.
use mathlib.Core.Path.{◌≡◌, refl, sym, ap, ◌∙◌, subst}
use mathlib.Core.Bool.{Bool, true, false, cond, ◌&&◌}
use mathlib.Core.List.{List, [], ◌∷◌}
use Prim.Native.Nat.{ℕ, zero, suc, ◌+◌, ◌*◌, ◌-◌, ◌/◌, ◌%◌, ◌≤◌, ◌<◌}
use native.Mathlib.Omega.{arith}
use native.Mathlib.Nat.{mul-pos, div-lt_iff_lt-mul, mul-mod_right, mul-div_cancel_left, mul_comm}
use native.Mathlib.Decide.{dec_le}
use lib.Dec.{T, leb, ltb, eqb, eqb→eq, ltb→lt, eqb_refl}
use lib.ListN.{length, take, drop, length-drop}
use lib.Seq.{drop-drop, take_all, length-take-le, take-length}
use Rattle.cgx_spec.specs.Fields.{Field, real, positive, date, short, longs, string, optional, absent, units, fits, width, Piece, pieces, every, lengths_fit}
use Rattle.cgx_spec.proofs.Lists.{true→T, and_left, and_right, and_both, units-is, to-units}

-- ---- pieces by their offsets

abbrev pub cut_at : List Field → ℕ → List ℕ → List Piece
cut_at [] at b = record { field = absent; bytes = take (length b - at) (drop at b) } ∷ []
cut_at (f ∷ fs) at b = record { field = f; bytes = take (width f (length b - at)) (drop at b) } ∷ cut_at fs (at + width f (length b - at)) b

abbrev one : Field → List ℕ → List Piece → List Piece
one f l ps = record { field = f; bytes = l } ∷ ps

cut-from : (fs : List Field) (at : ℕ) (b : List ℕ) → pieces fs (drop at b) ≡ cut_at fs at b
unfolding pieces
cut-from [] at b = ap (λ (l : List ℕ). one absent l []) (sym (take-length (drop at b)) ∙ ap (λ (n : ℕ). take n (drop at b)) (length-drop at b))
cut-from (f ∷ fs) at b =
    let w = width f (length b - at) in
    ap (λ (n : ℕ). one f (take (width f n) (drop at b)) (pieces fs (drop (width f n) (drop at b)))) (length-drop at b)
    ∙ ap (λ (l : List ℕ). one f (take w (drop at b)) (pieces fs l)) (drop-drop w at b)
    ∙ ap (one f (take w (drop at b))) (cut-from fs (at + w) b)

pub cut-is : (fs : List Field) (b : List ℕ) → pieces fs b ≡ cut_at fs 0 b
cut-is fs b = cut-from fs 0 b

-- a field that is the whole body
pub whole : (b : List ℕ) → b ≡ take (length b - 0) (drop 0 b)
whole b = sym (take_all (length b - 0) b (omega arith))

pub ending : (b : List ℕ) (at : ℕ) → drop at b ≡ take (length b - at) (drop at b)
ending b at = sym (take_all (length b - at) (drop at b) (omega (arith, length-drop at b)))

-- ---- the room that fields need

abbrev pub RoomLongs : Bool → ℕ → ℕ → ℕ → ℕ → Type 0
RoomLongs true k lo hi n = 4 * k * lo ≤ n
RoomLongs false k lo hi n = (n % (4 * k) ≡ 0) × (lo ≤ n / (4 * k)) × (n / (4 * k) ≤ hi)

-- of n bytes
abbrev pub RoomOf : Field → ℕ → Type 0
RoomOf real n = 8 ≤ n
RoomOf positive n = 8 ≤ n
RoomOf date n = 8 ≤ n
RoomOf short n = 2 ≤ n
RoomOf (longs k lo hi t) n = RoomLongs (eqb lo hi) k lo hi n
RoomOf string n = (n % 2 ≡ 0) × (2 ≤ n) × (n ≤ 65534)
RoomOf optional n = (n % 2 ≡ 0) × (n ≤ 65534)
RoomOf absent n = 0 ≤ n

-- the same, from an offset on, with no difference where the length is fixed: `omega` splits on each
abbrev pub RoomLongsAt : Bool → ℕ → ℕ → ℕ → ℕ → ℕ → Type 0
RoomLongsAt true k lo hi at n = at + 4 * k * lo ≤ n
RoomLongsAt false k lo hi at n = RoomLongs false k lo hi (n - at)

abbrev pub RoomAt : Field → ℕ → ℕ → Type 0
RoomAt real at n = at + 8 ≤ n
RoomAt positive at n = at + 8 ≤ n
RoomAt date at n = at + 8 ≤ n
RoomAt short at n = at + 2 ≤ n
RoomAt (longs k lo hi t) at n = RoomLongsAt (eqb lo hi) k lo hi at n
RoomAt string at n = RoomOf string (n - at)
RoomAt optional at n = RoomOf optional (n - at)
RoomAt absent at n = 0 ≤ n

abbrev pub Room : List Field → ℕ → ℕ → Type 0
Room [] at n = n - at ≡ 0
Room (f ∷ fs) at n = RoomAt f at n × Room fs (at + width f (n - at)) n

-- a long takes some bytes
abbrev pub sane : Field → Bool
sane real = true
sane positive = true
sane date = true
sane short = true
sane (longs k lo hi t) = ltb 0 k && ltb 0 lo
sane string = true
sane optional = true
sane absent = true

take-le : (n : ℕ) (l : List ℕ) → length (take n l) ≤ length l
take-le zero l = omega arith
take-le (suc n) [] = omega arith
take-le (suc n) (x ∷ l) = let h = take-le n l in omega arith

units-rest : (u lo hi w : ℕ) → T (units u lo hi w) → w % u ≡ 0
units-rest u lo hi w t = eqb→eq (w % u) 0 (and_left (eqb (w % u) 0) (leb lo (w / u)) (and_left (eqb (w % u) 0 && leb lo (w / u)) (leb (w / u) hi) t))

-- a fixed number of bytes
eight-fit : (n : ℕ) (l : List ℕ) → n ≤ length l → T (eqb (length (take n l)) n)
eight-fit n l h = subst (λ (x : ℕ). T (eqb x n)) (sym (length-take-le n l h)) (eqb_refl n)

pub eight-room : (n : ℕ) (l : List ℕ) → T (eqb (length (take n l)) n) → n ≤ length l
eight-room n l t = let e = eqb→eq (length (take n l)) n t in let h = take-le n l in omega arith

module _ (k lo hi : ℕ) (s : 0 < k) (l : List ℕ) where
  four-pos : 0 < 4 * k
  four-pos = omega arith

  longs-fit : (c : Bool) → eqb lo hi ≡ c → RoomLongs c k lo hi (length l) → T (units (4 * k) lo hi (length (take (cond c (4 * k * lo) (length l)) l)))
  longs-fit true e r =
      let h : lo ≡ hi = eqb→eq lo hi (true→T e) in
      subst (λ (w : ℕ). T (units (4 * k) lo hi w)) (sym (length-take-le (4 * k * lo) l r))
      (to-units (4 * k) lo hi (4 * k * lo) (mul-mod_right (4 * k) lo) (omega (arith, mul-div_cancel_left lo four-pos)) (omega (arith, mul-div_cancel_left lo four-pos)))
  longs-fit false e r = subst (λ (w : List ℕ). T (units (4 * k) lo hi (length w))) (sym (take-length l)) (to-units (4 * k) lo hi (length l) r.0 r.1 r.2)

  longs-room : (c : Bool) → eqb lo hi ≡ c → T (units (4 * k) lo hi (length (take (cond c (4 * k * lo) (length l)) l))) → RoomLongs c k lo hi (length l)
  longs-room true e t = go (dec_le (4 * k * lo) (length l))
    where
      go : Dec (4 * k * lo ≤ length l) → 4 * k * lo ≤ length l
      go (yes p) = p
      go (no q) =
          let u = subst (λ (w : List ℕ). T (units (4 * k) lo hi (length w))) (take_all (4 * k * lo) l (omega arith)) t in
          let m : length l < lo * (4 * k) = omega (arith, mul_comm lo (4 * k)) in
          let z : length l / (4 * k) < lo = (div-lt_iff_lt-mul four-pos).1 m in
          let v = units-is (4 * k) lo hi (length l) u in
          absurd (omega arith)
  longs-room false e t =
      let u = subst (λ (w : List ℕ). T (units (4 * k) lo hi (length w))) (take-length l) t in
      let v = units-is (4 * k) lo hi (length l) u in
      (units-rest (4 * k) lo hi (length l) u, v.1, v.2)

one-fit : (f : Field) (l : List ℕ) → T (sane f) → RoomOf f (length l) → T (fits f (length (take (width f (length l)) l)))
unfolding fits width
one-fit real l s r = eight-fit 8 l r
one-fit positive l s r = eight-fit 8 l r
one-fit date l s r = eight-fit 8 l r
one-fit short l s r = eight-fit 2 l r
one-fit (longs k lo hi t) l s r = longs-fit k lo hi (ltb→lt 0 k (and_left (ltb 0 k) (ltb 0 lo) s)) l (eqb lo hi) refl r
one-fit string l s r = subst (λ (w : List ℕ). T (units 2 1 32767 (length w))) (sym (take-length l)) (to-units 2 1 32767 (length l) r.0 (omega arith) (omega arith))
one-fit optional l s r = subst (λ (w : List ℕ). T (units 2 0 32767 (length w))) (sym (take-length l)) (to-units 2 0 32767 (length l) r.0 (omega arith) (omega arith))
one-fit absent l s r = tt

one-room : (f : Field) (l : List ℕ) → T (sane f) → T (fits f (length (take (width f (length l)) l))) → RoomOf f (length l)
unfolding fits width
one-room real l s t = eight-room 8 l t
one-room positive l s t = eight-room 8 l t
one-room date l s t = eight-room 8 l t
one-room short l s t = eight-room 2 l t
one-room (longs k lo hi u) l s t = longs-room k lo hi (ltb→lt 0 k (and_left (ltb 0 k) (ltb 0 lo) s)) l (eqb lo hi) refl t
one-room string l s t =
    let u = subst (λ (w : List ℕ). T (units 2 1 32767 (length w))) (take-length l) t in
    let v = units-is 2 1 32767 (length l) u in
    (units-rest 2 1 32767 (length l) u, omega arith, omega arith)
one-room optional l s t =
    let u = subst (λ (w : List ℕ). T (units 2 0 32767 (length w))) (take-length l) t in
    let v = units-is 2 0 32767 (length l) u in
    (units-rest 2 0 32767 (length l) u, omega arith)
one-room absent l s t = omega arith

room_of : (f : Field) (at n : ℕ) → RoomAt f at n → RoomOf f (n - at)
room_of real at n r = omega arith
room_of positive at n r = omega arith
room_of date at n r = omega arith
room_of short at n r = omega arith
room_of (longs k lo hi t) at n r = go (eqb lo hi) r
  where
    go : (c : Bool) → RoomLongsAt c k lo hi at n → RoomLongs c k lo hi (n - at)
    go true q = omega arith
    go false q = q
room_of string at n r = r
room_of optional at n r = r
room_of absent at n r = omega arith

room_at : (f : Field) (at n : ℕ) → T (sane f) → RoomOf f (n - at) → RoomAt f at n
room_at real at n s r = omega arith
room_at positive at n s r = omega arith
room_at date at n s r = omega arith
room_at short at n s r = omega arith
room_at (longs k lo hi t) at n s r = go (eqb lo hi) r
  where
    some_bytes : 0 < 4 * k * lo
    some_bytes = mul-pos (let p : 0 < k = ltb→lt 0 k (and_left (ltb 0 k) (ltb 0 lo) s) in omega arith) (ltb→lt 0 lo (and_right (ltb 0 k) (ltb 0 lo) s))

    go : (c : Bool) → RoomLongs c k lo hi (n - at) → RoomLongsAt c k lo hi at n
    go true q = let z = some_bytes in omega arith
    go false q = q
room_at string at n s r = r
room_at optional at n s r = r
room_at absent at n s r = omega arith

pub room-fit : (fs : List Field) (at : ℕ) (b : List ℕ) → T (every sane fs) → Room fs at (length b) → T (lengths_fit (cut_at fs at b))
unfolding lengths_fit fits
room-fit [] at b s r = and_both (eqb (length (take (length b - at) (drop at b))) 0) true (subst (λ (l : List ℕ). T (eqb (length l) 0)) (ending b at) (subst (λ (n : ℕ). T (eqb n 0)) (sym (length-drop at b ∙ r)) tt)) tt
room-fit (f ∷ fs) at b s r =
    let w = width f (length b - at) in
    let e = length-drop at b in
    and_both (fits f (length (take w (drop at b)))) (lengths_fit (cut_at fs (at + w) b))
    (subst (λ (n : ℕ). T (fits f (length (take (width f n) (drop at b))))) e (one-fit f (drop at b) (and_left (sane f) (every sane fs) s) (subst (RoomOf f) (sym e) (room_of f at (length b) r.0))))
    (room-fit fs (at + w) b (and_right (sane f) (every sane fs) s) r.1)

pub fit-room : (fs : List Field) (at : ℕ) (b : List ℕ) → T (every sane fs) → T (lengths_fit (cut_at fs at b)) → Room fs at (length b)
unfolding lengths_fit fits
fit-room [] at b s t =
    let z = eqb→eq (length (take (length b - at) (drop at b))) 0 (and_left (eqb (length (take (length b - at) (drop at b))) 0) true t) in
    sym (length-drop at b) ∙ ap length (ending b at) ∙ z
fit-room (f ∷ fs) at b s t =
    let w = width f (length b - at) in
    let e = length-drop at b in
    let u = and_left (fits f (length (take w (drop at b)))) (lengths_fit (cut_at fs (at + w) b)) t in (
      room_at f at (length b) (and_left (sane f) (every sane fs) s) (subst (RoomOf f) e (one-room f (drop at b) (and_left (sane f) (every sane fs) s) (subst (λ (n : ℕ). T (fits f (length (take (width f n) (drop at b))))) (sym e) u))),
      fit-room fs (at + w) b (and_right (sane f) (every sane fs) s) (and_right (fits f (length (take w (drop at b)))) (lengths_fit (cut_at fs (at + w) b)) t),
    )
