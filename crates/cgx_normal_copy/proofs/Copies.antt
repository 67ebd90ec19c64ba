-- A record's normal form is its bytes with the flags that are meant and its normal reals stored over the others. Assumes nothing.
use mathlib.Core.Path.{◌≡◌, sym, ap, ap₂, ◌∙◌}
use mathlib.Core.List.{List, [], ◌∷◌, ◌++◌}
use Prim.Native.Nat.{ℕ, ◌+◌, ◌-◌, ◌/◌, ◌%◌, ◌≤◌, ◌<◌}
use native.Mathlib.Omega.{arith}
use lib.Dec.{T}
use lib.ListN.{length, take, drop, set, get_or, length-drop}
use lib.Seq.{drop-drop, take-add, length-take-le}
use Rattle.cgx_spec.specs.declared.Kind.{Kind}
use Rattle.cgx_spec.specs.Kinds.{flags_of}
use Rattle.cgx_spec.specs.Records.{Rec, bytes_of, pieces_of, normal_of}
use Rattle.cgx_spec.specs.Walking.{size_at, rec_at, Held}
use Rattle.cgx_spec.specs.Restated.{good_size}
use Rattle.cgx_spec.proofs.Lists.{true→T}
use Rattle.cgx_spec.proofs.Sizes.{sizes-agree}
use Rattle.numbers.proofs.Parts.{part}
use Rattle.buffers.specs.Put.{put}
use Rattle.buffers.proofs.Puts.{put-length, put-within, put-after}
use Rattle.cgx_normal_copy.specs.declared.Reals.{Reals}
use Rattle.cgx_normal_copy.specs.Copy.{reals_in, reals_end, normal_reals, Copyable}
use Rattle.cgx_normal_copy.proofs.Bodies.{length-reals, body_is, reals-fit}

-- ---- of a record

record_is : (k : Kind) (r : Rec) → reals_end (reals_in k r.flags) ≤ length r.body
    → bytes_of (normal_of k r) ≡ put (set (bytes_of r) 3 (flags_of k r.flags)) (4 + (reals_in k r.flags).skip) (normal_reals (reals_in k r.flags) r.body)
unfolding bytes_of normal_of pieces_of
record_is k r h =
    let i = (reals_in k r.flags).skip in
    let ws = normal_reals (reals_in k r.flags) r.body in
    let n = length r.body in
    let fl = flags_of k r.flags in
    ap (λ (b : List ℕ). (4 + length b) / 256 ∷ (4 + length b) % 256 ∷ r.type ∷ fl ∷ b) (body_is k r.flags r.body h)
    ∙ ap (λ (m : ℕ). (4 + m) / 256 ∷ (4 + m) % 256 ∷ r.type ∷ fl ∷ put r.body i ws) (put-length r.body i ws)
    ∙ sym (put-after ((4 + n) / 256 ∷ (4 + n) % 256 ∷ r.type ∷ fl ∷ []) r.body i ws)

-- ---- of a record in a file

module _ (f : List ℕ) (at n : ℕ) (held : Held f at n) where
  pub body_length : length (rec_at f at n).body ≡ n - 4
  unfolding rec_at
  body_length = length-take-le (n - 4) (drop (at + 4) f) (omega (arith, held.least, held.inside, length-drop (at + 4) f))

  -- the file's bytes are those of the record: its first two are its size
  pub held_bytes : size_at f at ≡ n → get_or f (at + 1) 0 < 256 → take n (drop at f) ≡ bytes_of (rec_at f at n)
  unfolding bytes_of rec_at
  held_bytes e h =
      let b = take (n - 4) (drop (at + 4) f) in
      let l : length b ≡ n - 4 = body_length in
      let s : 4 + length b ≡ n = omega (arith, held.least) in
      let hi : (4 + length b) / 256 ≡ get_or f at 0 = omega arith in
      let lo : (4 + length b) % 256 ≡ get_or f (at + 1) 0 = omega arith in
      let m : n ≡ 4 + (n - 4) = omega (arith, held.least) in
      ap (λ (k : ℕ). take k (drop at f)) m
      ∙ take-add 4 (n - 4) (drop at f)
      ∙ ap₂ ◌++◌ (sym (part f at 3 (omega (arith, held.least, held.inside)))) (ap (take (n - 4)) (drop-drop 4 at f))
      ∙ ap₂ (λ (x y : ℕ). x ∷ y ∷ get_or f (at + 2) 0 ∷ get_or f (at + 3) 0 ∷ b) (sym hi) (sym lo)

module _ (k : Kind) (f : List ℕ) (at n : ℕ) (out : List ℕ) (to : ℕ) (h : Copyable k f at n out to) where
  pub room-for-reals : reals_end (reals_in k (get_or f (at + 3) 0)) ≤ n - 4
  unfolding rec_at
  room-for-reals =
      let l = body_length f at n h.held in
      let e = sizes-agree k (rec_at f at n) (omega (arith, h.held.even, h.held.least)) (omega (arith, h.held.most)) in
      let t : T (good_size k (get_or f (at + 3) 0) (4 + length (rec_at f at n).body)) = true→T (sym e ∙ h.fits) in
      let r = reals-fit k (get_or f (at + 3) 0) (length (rec_at f at n).body) t in
      omega arith

  -- the copy is as long as the record, so that the next one goes right after it
  pub copy-length : length (bytes_of (normal_of k (rec_at f at n))) ≡ n
  unfolding rec_at
  copy-length =
      let r = rec_at f at n in
      let l = body_length f at n h.held in
      let vs = set (bytes_of r) 3 (flags_of k r.flags) in
      let b : length vs ≡ 4 + length r.body = unfold bytes_of in (omega arith) in
      ap length (record_is k r (omega (arith, room-for-reals)))
      ∙ put-length vs (4 + (reals_in k r.flags).skip) (normal_reals (reals_in k r.flags) r.body)
      ∙ (omega (arith, h.held.least))

  -- x is the buffer with the record and its flags, y the same with the normal reals; i and j are the lengths of record and body as the code has them
  pub copied : get_or f (at + 1) 0 < 256 → (x y : List ℕ) (i j v : ℕ) (rs : Reals)
      → i ≡ n
      → j ≡ n - 4
      → v ≡ flags_of k (get_or f (at + 3) 0)
      → x ≡ put out to (set (take i (drop at f)) 3 v)
      → rs ≡ reals_in k (get_or f (at + 3) 0)
      → y ≡ put x (to + 4 + rs.skip) (normal_reals rs (take j (drop (at + 4) f)))
      → y ≡ put out to (bytes_of (normal_of k (rec_at f at n)))
  unfolding rec_at
  copied low x y i j v rs ei ej ev p er q =
      let fl = get_or f (at + 3) 0 in
      let r = rec_at f at n in
      let vs = set (bytes_of r) 3 (flags_of k fl) in
      let s = (reals_in k fl).skip in
      let ws = normal_reals (reals_in k fl) r.body in
      let l = body_length f at n h.held in
      let a : x ≡ put out to vs =
      p ∙ ap₂ (λ (m u : ℕ). put out to (set (take m (drop at f)) 3 u)) ei ev
      ∙ ap (λ (b : List ℕ). put out to (set b 3 (flags_of k fl))) (held_bytes f at n h.held h.says low) in
      let b : length vs ≡ 4 + length r.body = unfold bytes_of in (omega arith) in
      let fit : s + length ws ≤ length r.body = omega (arith, length-reals (reals_in k fl) r.body, room-for-reals) in
      q
      ∙ ap₂ (λ (t : Reals) (m : ℕ). put x (to + 4 + t.skip) (normal_reals t (take m (drop (at + 4) f)))) er ej
      ∙ ap (λ (b : List ℕ). put b (to + 4 + s) ws) a
      ∙ ap (λ (m : ℕ). put (put out to vs) m ws) (let e : to + 4 + s ≡ to + (4 + s) = omega arith in e)
      ∙ put-within out to (4 + s) vs ws (omega arith)
      ∙ ap (put out to) (sym (record_is k r (omega (arith, room-for-reals))))
