-- The buffer after a start and after a call: a refusal changes no byte, a taken record only its own, and then the bytes up to the place are one record longer.
-- Assumes nothing.
use Rattle.std.specs.Prelude.{None, Some, Ok, Err, IfErr}
use Rattle.std.proofs.lemmas.Bool.{true≢false}
use mathlib.Core.Path.{◌≡◌, refl, sym, ap, ◌∙◌}
use mathlib.Core.Logic.{◌⊎◌, inl, inr, ⊎_elim}
use mathlib.Core.Bool.{Bool, true, false, ◌||◌, cond}
use mathlib.Core.List.{List, [], ◌∷◌, ◌++◌}
use Prim.Native.Nat.{ℕ, suc, ◌+◌, ◌≤◌, ◌<◌}
use native.Mathlib.Omega.{arith}
use lib.Dec.{T, leb, leb→le, le→leb}
use lib.ListN.{length, take, drop, get_or, set, length-append}
use lib.Seq.{get_or-set_other, take_at, length-take-le}
use Rattle.cgx_spec.specs.declared.Refusal.{Refusal}
use Rattle.cgx_spec.specs.Dates.{within}
use Rattle.cgx_spec.specs.Records.{Rec, size, bytes_of}
use Rattle.cgx_spec.specs.Files.{header}
use Rattle.cgx_spec.specs.Walking.{place_after}
use Rattle.cgx_spec.proofs.Lists.{T→true, true→T, ¬T→false, and_left, and_right}
use Rattle.cgx_format_cursor.specs.Cursors.{cursor_of}
use Rattle.buffers.specs.Put.{put}
use Rattle.buffers.proofs.Puts.{put_is, put-length}
use Rattle.cgx_write_given.specs.declared.Writer.{Writer}
use Rattle.cgx_write_given.specs.Given.{Given, written}
use Rattle.cgx_write_given.specs.Writing.{offset_of, first_writer, writer_after, named, Outcome, is_taken, writer_or, call_in, start_in}
use Rattle.cgx_write_given.specs.Demands.{Untouched}
use Rattle.cgx_write_given.proofs.Calls.{numbers, check-numbers, taken, by-outcome}

-- ---- stores

-- the bytes outside a store
put_other : (l : List ℕ) (at : ℕ) (vs : List ℕ) (i : ℕ) → (i < at) ⊎ (at + length vs ≤ i) → get_or (put l at vs) i 0 ≡ get_or l i 0
unfolding put
put_other l at [] i h = refl
put_other l at (v ∷ vs) i h =
    put_other (set l at v) (suc at) vs i (⊎_elim (λ a. inl (omega arith)) (λ b. inr (omega arith)) h)
    ∙ get_or-set_other l at i v 0 (λ e. let q : i ≡ at = e in ⊎_elim (λ a. omega arith) (λ b. omega arith) h)

-- a store right after the first n bytes lengthens the beginning
pub take_put : (l : List ℕ) (n : ℕ) (vs : List ℕ) → n + length vs ≤ length l → take (n + length vs) (put l n vs) ≡ take n l ++ vs
take_put l n vs h =
    let k : n ≤ length l = omega arith in
    ap (take (n + length vs)) (put_is l n vs h)
    ∙ take_at (take n l ++ vs) (drop (n + length vs) l) (n + length vs) (length-append (take n l) vs ∙ ap (λ (x : ℕ). x + length vs) (length-take-le n l k))

pub length-bytes : (r : Rec) → length (bytes_of r) ≡ size r
unfolding bytes_of
length-bytes r = omega arith

-- ---- one call

refusal : (buf : List ℕ) (w : Writer) (g : Given) → let o = call_in buf w g in is_taken o.answer ≡ false → (o.buffer ≡ buf) × (writer_or w o.answer ≡ w)
refusal buf w g = by-outcome (λ o. is_taken o.answer ≡ false → (o.buffer ≡ buf) × (writer_or w o.answer ≡ w)) buf w g (λ e h. absurd (true≢false h)) (λ n e h. (refl, refl))

-- the bytes up to the writer after a record
pub take-record : (buf : List ℕ) (w : Writer) (g : Given) → offset_of w + size (written g) ≤ length buf → take (offset_of (writer_after w g)) (put buf (offset_of w) (bytes_of (written g))) ≡ take (offset_of w) buf ++ bytes_of (written g)
unfolding writer_after cursor_of place_after
take-record buf w g l =
    let vs = bytes_of (written g) in
    let n = length-bytes (written g) in
    ap (λ (x : ℕ). take (offset_of w + x) (put buf (offset_of w) vs)) (sym n) ∙ take_put buf (offset_of w) vs (omega arith)

outside : (buf : List ℕ) (w : Writer) (g : Given) (i : ℕ) → let o = call_in buf w g in (i < offset_of w) ⊎ (offset_of (writer_or w o.answer) ≤ i) → get_or o.buffer i 0 ≡ get_or buf i 0
unfolding writer_after cursor_of place_after
outside buf w g i =
    by-outcome (λ o. (i < offset_of w) ⊎ (offset_of (writer_or w o.answer) ≤ i) → get_or o.buffer i 0 ≡ get_or buf i 0) buf w g
    (λ e h. put_other buf (offset_of w) (bytes_of (written g)) i (⊎_elim (λ a. inl a) (λ b. inr (omega (arith, length-bytes (written g)))) h))
    (λ n e h. refl)

length-stays : (buf : List ℕ) (w : Writer) (g : Given) → length (call_in buf w g).buffer ≡ length buf
length-stays buf w g = by-outcome (λ o. length o.buffer ≡ length buf) buf w g (λ e. put-length buf (offset_of w) (bytes_of (written g))) (λ n e. refl)

-- ---- the answer

-- the number and the place of a refusal
abbrev Names : Writer → Refusal → Type 0
Names w r = ((6 ≤ r.number) × (r.number ≤ 12) × (r.at ≡ Some (offset_of w))) ⊎ ((14 ≤ r.number) × (r.number ≤ 16) × (r.at ≡ None))

named_by : (w : Writer) (n : ℕ) → T (numbers n) → Names w (record { number = n; at = named n (offset_of w) })
named_by w n t = one (within 6 12 n) refl t
  where
    one : (b : Bool) → within 6 12 n ≡ b → T (b || within 14 16 n) → Names w (record { number = n; at = cond b (Some (offset_of w)) None })
    one true e t = let h = true→T e in inl (leb→le 6 n (and_left (leb 6 n) (leb n 12) h), leb→le n 12 (and_right (leb 6 n) (leb n 12) h), refl)
    one false e t = inr (leb→le 14 n (and_left (leb 14 n) (leb n 16) t), leb→le n 16 (and_right (leb 14 n) (leb n 16) t), refl)

pub numbered : (buf : List ℕ) (w : Writer) (g : Given) → IfErr (call_in buf w g).answer (Names w)
numbered buf w g = by-outcome (λ o. IfErr o.answer (Names w)) buf w g (λ e. tt) (λ n e. named_by w n (check-numbers (length buf) w g n e))

pub goes_on : (buf : List ℕ) (w : Writer) (g : Given) → let a = (call_in buf w g).answer in is_taken a ≡ true → a ≡ Ok (writer_after w g)
goes_on buf w g = by-outcome (λ o. is_taken o.answer ≡ true → o.answer ≡ taken w g) buf w g (λ e h. refl) (λ n e h. absurd (true≢false (sym h)))

-- ---- the start

pub start_is : (buf : List ℕ) → 4 ≤ length buf → (start_in buf).buffer ≡ put buf 0 header
unfolding start_in
start_is buf l = let e : leb 4 (length buf) ≡ true = T→true (le→leb 4 (length buf) l) in rw e

start-short : (buf : List ℕ) → length buf < 4 → start_in buf ≡ record { answer = Err (record { number = 14; at = None }); buffer = buf }
unfolding start_in
start-short buf l = let e : leb 4 (length buf) ≡ false = ¬T→false (λ t. let h = leb→le 4 (length buf) t in omega arith) in rw e

start-stores : (buf : List ℕ) → 4 ≤ length buf → ((start_in buf).answer ≡ Ok first_writer) × (take 4 (start_in buf).buffer ≡ header) × (length (start_in buf).buffer ≡ length buf)
unfolding start_in
start-stores buf l = let e : leb 4 (length buf) ≡ true = T→true (le→leb 4 (length buf) l) in rw e (refl, take_put buf 0 header l, put-length buf 0 header)

start_outside : (buf : List ℕ) (i : ℕ) → 4 ≤ i → get_or (start_in buf).buffer i 0 ≡ get_or buf i 0
unfolding start_in
start_outside buf i l = one (leb 4 (length buf))
  where
    one : (b : Bool) → get_or (cond {A = Outcome} b (record { answer = Ok first_writer; buffer = put buf 0 header }) (record { answer = Err (record { number = 14; at = None }); buffer = buf })).buffer i 0 ≡ get_or buf i 0
    one true = put_other buf 0 header i (inr l)
    one false = refl

pub untouched : Untouched
untouched =
    record {
      outside = outside;
      length-stays = length-stays;
      refusal = refusal;
      start-stores = start-stores;
      start_outside = start_outside;
      start-short = start-short;
    }
