-- After any calls from a fresh start, what the taken ones stored is read back: each store lengthens the bytes before the writer's place by a good record. Assumes nothing.
use Rattle.std.specs.Prelude.{None, Option, Some}
use mathlib.Core.Path.{◌≡◌, refl, sym, ap, ap₂, ◌∙◌, subst}
use mathlib.Core.Bool.{Bool, true, false, cond}
use mathlib.Core.List.{List, [], ◌∷◌, ◌++◌, map, append-nil, append_assoc}
use Prim.Native.Nat.{ℕ, ◌+◌, ◌≤◌}
use native.Mathlib.Omega.{arith}
use lib.Dec.{leb, leb→le}
use lib.ListN.{length, take}
use Rattle.cgx_spec.specs.declared.Kind.{Kind}
use Rattle.cgx_spec.specs.declared.Context.{Context}
use Rattle.cgx_spec.specs.declared.Place.{Place}
use Rattle.cgx_spec.specs.Verdicts.{Verdict}
use Rattle.cgx_spec.specs.Fields.{join}
use Rattle.cgx_spec.specs.Order.{start}
use Rattle.cgx_spec.specs.Records.{Rec, size, bytes_of, Meaning, meaning_of, normal_of, broken, context_after, view_meaning}
use Rattle.cgx_spec.specs.Files.{header, Accepted, records_of, Known, known, if_known, sequence, meanings, normals, normal_form, views_of}
use Rattle.cgx_spec.specs.Walking.{first_place, place_after, forged, done, ending, step_of, Reads, reads}
use Rattle.cgx_spec.specs.Written.{GoodFrom}
use Rattle.cgx_spec.proofs.Lists.{true→T}
use Rattle.cgx_spec.proofs.Steps.{reading-law}
use Rattle.cgx_spec.proofs.Chain.{good-chain, file-complete}
use Rattle.cgx_format_cursor.specs.Cursors.{place_in, cursor_of}
use Rattle.cgx_format_cursor.proofs.Laws.{start-in}
use Rattle.buffers.specs.Put.{put}
use Rattle.buffers.proofs.Puts.{put-length}
use Rattle.cgx_write_given.specs.declared.Writer.{Writer}
use Rattle.cgx_write_given.specs.Given.{Given, meant, written}
use Rattle.cgx_write_given.specs.Typed.{WellTyped, AllWell}
use Rattle.cgx_write_given.specs.Writing.{offset_of, context_of, place_of, first_writer, writer_after, rules_of, checks, writer_or, History, if_taken, calls, from_start, file_of}
use Rattle.cgx_write_given.specs.Demands.{ReadBack}
use Rattle.cgx_write_given.proofs.Records.{further, checks-are, kind-written, Good, good-call}
use Rattle.cgx_write_given.proofs.Calls.{by-outcome}
use Rattle.cgx_write_given.proofs.Unforged.{place_after_lem}
use Rattle.cgx_write_given.proofs.Stores.{take_put, take-record, start_is}

-- ---- one call

-- no refusal: the rules are kept and there is room
no-refusal : (n : ℕ) (w : Writer) (g : Given) → broken (checks n w g) ≡ None → (broken (rules_of (context_of w) g) ≡ None) × (offset_of w + size (written g) ≤ n)
no-refusal n w g e = one (forged n (place_of w)) (broken (rules_of (context_of w) g)) (leb (offset_of w + size (written g)) n) refl (sym (checks-are n w g) ∙ e)
  where
    one : (f : Bool) (o : Option ℕ) (r : Bool) → leb (offset_of w + size (written g)) n ≡ r → cond f (Some 16) (further o 14 r) ≡ None → (o ≡ None) × (offset_of w + size (written g) ≤ n)
    one true o r q e = absurd (let z : ◌≡◌ {A = ℕ} 0 1 = cc in omega arith)
    one false (Some m) r q e = absurd (let z : ◌≡◌ {A = ℕ} 0 1 = cc in omega arith)
    one false None false q e = absurd (let z : ◌≡◌ {A = ℕ} 0 1 = cc in omega arith)
    one false None true q e = (refl, leb→le (offset_of w + size (written g)) n (true→T q))

-- ---- any calls

pub record Kept (w : Writer) (seen : List ℕ) (h : History) : Type 0 where
  pub good : GoodFrom (context_of w) (offset_of w) (map written h.taken)
  pub bytes : take (offset_of h.writer) h.buffer ≡ seen ++ join bytes_of (map written h.taken)
  pub means : map (λ g. meaning_of g.kind (written g)) h.taken ≡ map meant h.taken
  pub normal : map (λ g. normal_of g.kind (written g)) h.taken ≡ map written h.taken

-- what calls from a writer on keep
abbrev Keeping : List Given → List ℕ → Writer → Type 0
Keeping gs buf w = 4 ≤ offset_of w → offset_of w ≤ length buf → let h = calls buf w gs in (context_of h.writer).ended ≡ true → Kept w (take (offset_of w) buf) h

-- a record that is taken, and then more calls
one-taken : (g : Given) (gs : List Given) → WellTyped g → (buf : List ℕ) (w : Writer) → broken (checks (length buf) w g) ≡ None → let b = put buf (offset_of w) (bytes_of (written g)) in let v = writer_after w g in
    Keeping gs b v → 4 ≤ offset_of w → let h = calls b v gs in (context_of h.writer).ended ≡ true → Kept w (take (offset_of w) buf) (record { taken = g ∷ h.taken; writer = h.writer; buffer = h.buffer })
unfolding place_in place_after context_after
one-taken g gs t buf w f rest four e =
    let n = no-refusal (length buf) w g f in
    let c : Good (context_of w) g = good-call (context_of w) g t n.0 in
    let vs = bytes_of (written g) in
    let b = put buf (offset_of w) vs in
    let v = writer_after w g in
    let m : length b ≡ length buf = put-length buf (offset_of w) vs in
    let p = place_after_lem w g (omega arith) in
    let at : offset_of v ≡ offset_of w + size (written g) = ap (λ (q : Place). q.at) p in
    let k : Kept v (take (offset_of v) b) (calls b v gs) = rest (omega arith) (omega (arith, n.1)) e in
    let ts = (calls b v gs).taken in
    record {
      good = (c.unended, c.sized, c.kept, subst (λ (q : Place). GoodFrom q.context q.at (map written ts)) p k.good);
      bytes = k.bytes ∙ ap (λ (x : List ℕ). x ++ join bytes_of (map written ts)) (take-record buf w g n.1) ∙ append_assoc (take (offset_of w) buf) vs (join bytes_of (map written ts));
      means = ap₂ ◌∷◌ c.means k.means;
      normal = ap₂ ◌∷◌ c.normal k.normal;
    }

calls-kept : (gs : List Given) → AllWell gs → (buf : List ℕ) (w : Writer) → Keeping gs buf w
unfolding calls
calls-kept [] h buf w four l = λ e. record { good = e; bytes = sym (append-nil (take (offset_of w) buf)); means = refl; normal = refl }
calls-kept (g ∷ gs) h buf w four l =
    by-outcome
    (λ o. let r = calls o.buffer (writer_or w o.answer) gs in (context_of r.writer).ended ≡ true → Kept w (take (offset_of w) buf) (record { taken = if_taken o.answer g r.taken; writer = r.writer; buffer = r.buffer }))
    buf w g
    (λ f. one-taken g gs h.0 buf w f (calls-kept gs h.1 (put buf (offset_of w) (bytes_of (written g))) (writer_after w g)) four)
    (λ n f. calls-kept gs h.1 buf w four l)

-- ---- the file of the records taken

abbrev known_of : Given → Known
known_of g = record { kind = g.kind; rec = written g }

known-all : (gs : List Given) → known (map written gs) ≡ map known_of gs
unfolding known
known-all [] = refl
known-all (g ∷ gs) = ap (λ (o : Option Kind). if_known o (written g) (known (map written gs))) (kind-written g) ∙ ap (λ (x : List Known). known_of g ∷ x) (known-all gs)

normals-all : (gs : List Given) → normals (map known_of gs) ≡ map (λ g. normal_of g.kind (written g)) gs
normals-all [] = refl
normals-all (g ∷ gs) = ap (λ (x : List Rec). normal_of g.kind (written g) ∷ x) (normals-all gs)

meanings-all : (gs : List Given) → meanings (map known_of gs) ≡ map (λ g. meaning_of g.kind (written g)) gs
meanings-all [] = refl
meanings-all (g ∷ gs) = ap (λ (x : List Meaning). meaning_of g.kind (written g) ∷ x) (meanings-all gs)

module _ (buf : List ℕ) (l : 4 ≤ length buf) (h : History) (k : Kept first_writer (take 4 (put buf 0 header)) h) where
  bytes-are : take (offset_of h.writer) h.buffer ≡ file_of h.taken
  unfolding file_of
  bytes-are = k.bytes ∙ ap (λ (x : List ℕ). x ++ join bytes_of (map written h.taken)) (take_put buf 0 header l)

  file-read : Accepted (file_of h.taken) × (records_of (file_of h.taken) ≡ map written h.taken)
  unfolding file_of first_writer cursor_of first_place
  file-read = file-complete (map written h.taken) (good-chain (map written h.taken) start 4 (subst (λ (c : Context). GoodFrom c 4 (map written h.taken)) start-in k.good))

  sequence-is : sequence (file_of h.taken) ≡ map known_of h.taken
  unfolding sequence
  sequence-is = ap known file-read.1 ∙ known-all h.taken

  own-form : normal_form (file_of h.taken) ≡ file_of h.taken
  unfolding normal_form file_of
  own-form = ap (λ (ks : List Known). header ++ join bytes_of (normals ks)) sequence-is ∙ ap (λ (x : List Rec). header ++ join bytes_of x) (normals-all h.taken ∙ k.normal)

  means-are : meanings (sequence (file_of h.taken)) ≡ map meant h.taken
  means-are = ap meanings sequence-is ∙ meanings-all h.taken ∙ k.means

  -- the walk gives the views of the file, and its verdict
  walk_is : let f = file_of h.taken in reads (length f) f (step_of f first_place) ≡ record { views = views_of f; last = done }
  unfolding file_of Accepted ending
  walk_is = reading-law.steps (join bytes_of (map written h.taken)) ∙ ap (λ (v : Verdict). record { views = views_of (file_of h.taken); last = ending v }) file-read.0

  shown-are : let f = file_of h.taken in let r = reads (length f) f (step_of f first_place) in (map view_meaning r.views ≡ map meant h.taken) × (r.last ≡ done)
  shown-are = (ap (λ (r : Reads). map view_meaning r.views) walk_is ∙ reading-law.views-mean (file_of h.taken) ∙ means-are, ap (λ (r : Reads). r.last) walk_is)

  reads-back : ReadBack h
  reads-back =
      record {
        bytes = bytes-are;
        accepted = rw bytes-are file-read.0;
        means = rw bytes-are means-are;
        shown = rw bytes-are shown-are;
        normal = rw bytes-are own-form;
      }

pub any-calls : (buf : List ℕ) (gs : List Given) → 4 ≤ length buf → AllWell gs → let h = from_start buf gs in (context_of h.writer).ended ≡ true → ReadBack h
unfolding from_start
any-calls buf gs l w =
    let b = put buf 0 header in
    let four : offset_of first_writer ≡ 4 = unfold first_writer cursor_of first_place in refl in
    let room : offset_of first_writer ≤ length b = omega (arith, put-length buf 0 header) in
    rw (start_is buf l) (λ e. reads-back buf l (calls b first_writer gs) (subst (λ (n : ℕ). Kept first_writer (take n b) (calls b first_writer gs)) four (calls-kept gs w b first_writer (omega arith) room e)))
