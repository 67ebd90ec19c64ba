-- Room: good records with room enough are all taken, and the first one without room is answered 14. Assumes nothing.
use Rattle.std.specs.Prelude.{None, Some, Err}
use mathlib.Core.Path.{◌≡◌, refl, sym, ap, ◌∙◌, subst}
use mathlib.Core.Bool.{Bool, true, false, cond}
use mathlib.Core.List.{List, [], ◌∷◌, ◌++◌, map}
use Prim.Native.Nat.{ℕ, ◌+◌, ◌≤◌, ◌<◌}
use native.Mathlib.Omega.{arith}
use lib.Dec.{leb, leb→le, le→leb}
use lib.ListN.{length, length-append}
use Rattle.cgx_spec.specs.Fields.{join}
use Rattle.cgx_spec.specs.Records.{size, bytes_of, broken}
use Rattle.cgx_spec.specs.Files.{header}
use Rattle.cgx_spec.specs.Walking.{first_place, place_after}
use Rattle.cgx_format_cursor.specs.Cursors.{place_in, cursor_of}
use Rattle.cgx_format_cursor.proofs.Laws.{first-in}
use Rattle.cgx_spec.proofs.Lists.{T→true, true→T, false→¬T}
use Rattle.buffers.specs.Put.{put}
use Rattle.buffers.proofs.Puts.{put-length}
use Rattle.cgx_write_given.specs.declared.Writer.{Writer}
use Rattle.cgx_write_given.specs.Given.{Given, written}
use Rattle.cgx_write_given.specs.Typed.{WellTyped, AllWell}
use Rattle.cgx_write_given.specs.Writing.{offset_of, context_of, place_of, first_writer, writer_after, rules_of, checks, answered, planned, Outcome, writer_or, call_in, if_taken, calls, from_start, file_of}
use Rattle.cgx_write_given.specs.Demands.{Whole, ReadBack, Stops}
use Rattle.cgx_write_given.proofs.Records.{checks-are, Good, good-call}
use Rattle.cgx_spec.proofs.Steps.{Unforged, not-forged, unforged-start}
use Rattle.cgx_write_given.proofs.Calls.{taken, refused}
use Rattle.cgx_write_given.proofs.Unforged.{unforged-after}
use Rattle.cgx_write_given.proofs.Stores.{length-bytes, start_is}
use Rattle.cgx_write_given.proofs.Histories.{any-calls}

-- ---- one call

-- a call from a writer that is not forged that keeps its rules: room decides
room-decides : (buf : List ℕ) (w : Writer) (g : Given) → Unforged (length buf) (place_of w) → broken (rules_of (context_of w) g) ≡ None → (r : Bool) → leb (offset_of w + size (written g)) (length buf) ≡ r → broken (checks (length buf) w g) ≡ cond r None (Some 14)
room-decides buf w g s e r q = checks-are (length buf) w g ∙ rw (not-forged (length buf) (place_of w) s, e, q)

takes : (buf : List ℕ) (w : Writer) (g : Given) → Unforged (length buf) (place_of w) → broken (rules_of (context_of w) g) ≡ None → offset_of w + size (written g) ≤ length buf → call_in buf w g ≡ record { answer = taken w g; buffer = put buf (offset_of w) (bytes_of (written g)) }
unfolding call_in planned answered
takes buf w g s e l = rw (room-decides buf w g s e true (T→true (le→leb (offset_of w + size (written g)) (length buf) l)))

lacks-room : (buf : List ℕ) (w : Writer) (g : Given) → Unforged (length buf) (place_of w) → broken (rules_of (context_of w) g) ≡ None → leb (offset_of w + size (written g)) (length buf) ≡ false → call_in buf w g ≡ record { answer = refused w 14; buffer = buf }
unfolding call_in planned answered
lacks-room buf w g s e q = rw (room-decides buf w g s e false q)

-- the bytes of the records
abbrev total : List Given → ℕ
total gs = length (join bytes_of (map written gs))

total-cons : (g : Given) (gs : List Given) → total (g ∷ gs) ≡ size (written g) + total gs
total-cons g gs = length-append (bytes_of (written g)) (join bytes_of (map written gs)) ∙ ap (λ (n : ℕ). n + total gs) (length-bytes (written g))

-- the calls of g and then of more, where g is taken
after-taken : (buf : List ℕ) (w : Writer) (g : Given) (gs : List Given) → call_in buf w g ≡ record { answer = taken w g; buffer = put buf (offset_of w) (bytes_of (written g)) }
    → calls buf w (g ∷ gs) ≡ (let h = calls (put buf (offset_of w) (bytes_of (written g))) (writer_after w g) gs in record { taken = g ∷ h.taken; writer = h.writer; buffer = h.buffer })
unfolding calls
after-taken buf w g gs e = ap (λ (o : Outcome). let h = calls o.buffer (writer_or w o.answer) gs in record { taken = if_taken o.answer g h.taken; writer = h.writer; buffer = h.buffer }) e

-- what is left to store after it
after-room : (buf : List ℕ) (w : Writer) (g : Given) (n : ℕ) → offset_of w + size (written g) + n ≤ length buf → offset_of (writer_after w g) + n ≤ length (put buf (offset_of w) (bytes_of (written g)))
unfolding writer_after cursor_of place_after
after-room buf w g n l = omega (arith, put-length buf (offset_of w) (bytes_of (written g)))

after-lacks : (buf : List ℕ) (w : Writer) (g : Given) (n : ℕ) → length buf < offset_of w + (size (written g) + n) → length (put buf (offset_of w) (bytes_of (written g))) < offset_of (writer_after w g) + n
unfolding writer_after cursor_of place_after
after-lacks buf w g n l = omega (arith, put-length buf (offset_of w) (bytes_of (written g)))

-- the writer after a taken call is not forged, as the one before it is not
module _ (buf : List ℕ) (w : Writer) (g : Given) (s : Unforged (length buf) (place_of w)) (t : WellTyped g) (e : broken (rules_of (context_of w) g) ≡ None) (l : offset_of w + size (written g) ≤ length buf) where
  sound-on : Unforged (length (put buf (offset_of w) (bytes_of (written g)))) (place_of (writer_after w g))
  sound-on =
      let c : Good (context_of w) g = good-call (context_of w) g t e in
      let v = c.sized.even in
      subst (λ (n : ℕ). Unforged n (place_of (writer_after w g))) (sym (put-length buf (offset_of w) (bytes_of (written g)))) (unforged-after (length buf) w g s (omega arith) l)

-- ---- room enough

pub all-taken : (gs : List Given) (buf : List ℕ) (w : Writer) → Whole w gs → Unforged (length buf) (place_of w) → offset_of w + total gs ≤ length buf → ((calls buf w gs).taken ≡ gs) × ((context_of (calls buf w gs).writer).ended ≡ true)
all-taken [] buf w h s l = unfold calls in (refl, h)
all-taken (g ∷ gs) buf w h s l =
    let n = total-cons g gs in
    let k : offset_of w + size (written g) ≤ length buf = omega arith in
    let buf' = put buf (offset_of w) (bytes_of (written g)) in
    let m : offset_of (writer_after w g) + total gs ≤ length buf' = after-room buf w g (total gs) (omega arith) in
    let r = all-taken gs buf' (writer_after w g) h.2 (sound-on buf w g s h.0 h.1 k) m in
    rw (after-taken buf w g gs (takes buf w g s h.1 k)) (ap (λ (x : List Given). g ∷ x) r.0, r.1)

-- ---- too little room

-- `Stops`, from any writer on
record StopsFrom (buf : List ℕ) (w : Writer) (gs : List Given) : Type 0 where
  before : List Given
  first : Given
  rest : List Given
  split : gs ≡ before ++ (first ∷ rest)
  taken : (calls buf w before).taken ≡ before
  fits : offset_of w + total before ≤ length buf
  lacks : length buf < offset_of w + total (before ++ (first ∷ []))
  fourteen : let h = calls buf w before in call_in h.buffer h.writer first ≡ record { answer = Err (record { number = 14; at = None }); buffer = h.buffer }

stops-here : (buf : List ℕ) (w : Writer) (g : Given) (gs : List Given) → Unforged (length buf) (place_of w) → broken (rules_of (context_of w) g) ≡ None → leb (offset_of w + size (written g)) (length buf) ≡ false → StopsFrom buf w (g ∷ gs)
unfolding calls
stops-here buf w g gs s e q =
    let n = total-cons g [] in
    let k : offset_of w + size (written g) ≤ length buf → ⊥ = λ l. false→¬T q (le→leb (offset_of w + size (written g)) (length buf) l) in
    record {
      before = [];
      first = g;
      rest = gs;
      split = refl;
      taken = refl;
      fits = (let h : offset_of w ≤ length buf = unfold place_in in s.high in omega arith);
      lacks = omega (arith, not-le (offset_of w + size (written g)) (length buf) k);
      fourteen = lacks-room buf w g s e q;
    }
  where
    not-le : (m n : ℕ) → (m ≤ n → ⊥) → n < m
    not-le m n h = omega arith

stops-later : (buf : List ℕ) (w : Writer) (g : Given) (gs : List Given) → call_in buf w g ≡ record { answer = taken w g; buffer = put buf (offset_of w) (bytes_of (written g)) }
    → StopsFrom (put buf (offset_of w) (bytes_of (written g))) (writer_after w g) gs → StopsFrom buf w (g ∷ gs)
unfolding writer_after cursor_of place_after
stops-later buf w g gs e r =
    let bs = r.before in
    let m = put-length buf (offset_of w) (bytes_of (written g)) in
    let t = after-taken buf w g bs e in
    record {
      before = g ∷ bs;
      first = r.first;
      rest = r.rest;
      split = ap (λ (x : List Given). g ∷ x) r.split;
      taken = rw t (ap (λ (x : List Given). g ∷ x) r.taken);
      fits = (let h = r.fits in omega (arith, total-cons g bs));
      lacks = (let h = r.lacks in omega (arith, total-cons g (bs ++ (r.first ∷ []))));
      fourteen = rw t r.fourteen;
    }

stops-from : (gs : List Given) (buf : List ℕ) (w : Writer) → Whole w gs → Unforged (length buf) (place_of w) → length buf < offset_of w + total gs → StopsFrom buf w gs
stops-from [] buf w h s l = absurd (let x : offset_of w ≤ length buf = unfold place_in in s.high in omega arith)
stops-from (g ∷ gs) buf w h s l = one (leb (offset_of w + size (written g)) (length buf)) refl (λ b' q h' s' l'. stops-from gs b' q h' s' l')
  where
    one : (r : Bool) → leb (offset_of w + size (written g)) (length buf) ≡ r
        → ((b' : List ℕ) (v : Writer) → Whole v gs → Unforged (length b') (place_of v) → length b' < offset_of v + total gs → StopsFrom b' v gs)
        → StopsFrom buf w (g ∷ gs)
    one false q rec = stops-here buf w g gs s h.1 q
    one true q rec =
        let k = leb→le (offset_of w + size (written g)) (length buf) (true→T q) in
        stops-later buf w g gs (takes buf w g s h.1 k)
        (rec (put buf (offset_of w) (bytes_of (written g))) (writer_after w g) h.2 (sound-on buf w g s h.0 h.1 k)
        (after-lacks buf w g (total gs) (let n = total-cons g gs in omega arith)))

-- ---- from a fresh start

whole-well : (gs : List Given) (w : Writer) → Whole w gs → AllWell gs
whole-well [] w h = tt
whole-well (g ∷ gs) w h = (h.0, whole-well gs (writer_after w g) h.2)

length-file : (gs : List Given) → length (file_of gs) ≡ 4 + total gs
unfolding file_of
length-file gs = length-append header (join bytes_of (map written gs))

first-offset : offset_of first_writer ≡ 4
unfolding first_writer cursor_of first_place
first-offset = refl

module _ (buf : List ℕ) (l : 4 ≤ length buf) where
  four-stored : length (put buf 0 header) ≡ length buf
  four-stored = put-length buf 0 header

  sound-first : Unforged (length (put buf 0 header)) (place_of first_writer)
  unfolding first_writer
  sound-first = let e = four-stored in subst (Unforged (length (put buf 0 header))) (sym first-in) (unforged-start (length (put buf 0 header)) (omega arith))

  taken-all : (gs : List Given) → Whole first_writer gs → length (file_of gs) ≤ length buf → ((from_start buf gs).taken ≡ gs) × ((context_of (from_start buf gs).writer).ended ≡ true)
  unfolding from_start
  taken-all gs h r =
      let e = four-stored in
      let n = length-file gs in
      let room : offset_of first_writer + total gs ≤ length (put buf 0 header) = omega (arith, first-offset) in
      rw (start_is buf l) (all-taken gs (put buf 0 header) first_writer h sound-first room)

  stops : (gs : List Given) → StopsFrom (put buf 0 header) first_writer gs → Stops buf gs
  unfolding from_start
  stops gs r =
      let e = four-stored in
      record {
        before = r.before;
        first = r.first;
        rest = r.rest;
        split = r.split;
        taken = rw (start_is buf l) r.taken;
        fits = (let n = length-file r.before in let h = r.fits in omega (arith, first-offset));
        lacks = (let n = length-file (r.before ++ (r.first ∷ [])) in let h = r.lacks in omega (arith, first-offset));
        fourteen = rw (start_is buf l) r.fourteen;
      }

  lacks-all : (gs : List Given) → length buf < length (file_of gs) → length (put buf 0 header) < offset_of first_writer + total gs
  lacks-all gs r = let e = four-stored in let n = length-file gs in omega (arith, first-offset)

pub round_trip : (buf : List ℕ) (gs : List Given) → Whole first_writer gs → length (file_of gs) ≤ length buf → let h = from_start buf gs in (h.taken ≡ gs) × ReadBack h
round_trip buf gs h l =
    let n = length-file gs in
    let four : 4 ≤ length buf = omega arith in
    let r = taken-all buf four gs h l in
    (r.0, any-calls buf gs four (whole-well gs first_writer h) r.1)

pub no_room : (buf : List ℕ) (gs : List Given) → Whole first_writer gs → 4 ≤ length buf → length buf < length (file_of gs) → Stops buf gs
no_room buf gs h l r = stops buf l gs (stops-from gs (put buf 0 header) first_writer h (sound-first buf l) (lacks-all buf l gs r))
