-- The turns of the maker's loop over the sequence of an accepted file. Assumes nothing.
use Rattle.std.specs.Prelude.{None, Some, Err}
use mathlib.Core.Path.{◌≡◌, refl, sym, ap, ◌∙◌}
use mathlib.Core.Bool.{Bool, true, false, cond}
use mathlib.Core.List.{List, [], ◌++◌}
use Prim.Native.Nat.{ℕ, ◌+◌, ◌-◌, ◌≤◌, ◌<◌}
use native.Mathlib.Omega.{arith}
use borrow.Author.Tests.{lt-leb, le-leb}
use lib.ListN.{length, take, drop, length-append}
use lib.Seq.{length-take-le}
use Rattle.cgx_spec.specs.declared.FileRefusal.{FileRefusal}
use Rattle.cgx_spec.specs.Verdicts.{Verdict, of_file}
use Rattle.cgx_spec.specs.Verdicts.{accepted, refused}
use Rattle.cgx_spec.specs.Numbers.{Bytes}
use Rattle.cgx_spec.specs.Fields.{join}
use Rattle.cgx_spec.specs.Records.{Rec, bytes_of, normal_of}
use Rattle.cgx_spec.specs.Files.{verdict_of, Accepted, records_of, Known, known, normals, normal_form}
use Rattle.cgx_spec.specs.Walking.{rec_at}
use Rattle.cgx_spec.proofs.Lists.{Bytes-take, Bytes-drop}
use Rattle.buffers.specs.Put.{put}
use Rattle.buffers.proofs.Puts.{put-nil, put_next, put-length, put_is}
use Rattle.cgx_normal_copy.specs.Copy.{Copyable}
use Rattle.cgx_format_headers.proofs.Heads.{held-size}
use Rattle.cgx_format_headers.specs.declared.KnownRecord.{KnownRecord}
use Rattle.cgx_read_sequence.specs.Sequence.{Rest, First}
use Rattle.cgx_read_sequence.proofs.Rests.{first_rest}
use Rattle.cgx_read_check.specs.Measure.{normal_run}
use Rattle.cgx_read_check.proofs.Runs.{length-of, fits-of, size-normal, form-is, form-long}
use Rattle.cgx_normal_form.specs.NormalAnswer.{of_length, refused_with, room_for, made, normal_answer_of, left, output_after}

-- ---- the copying loop

-- what was written so far, with the rest after it, is the whole
pub record Written (f : List ℕ) (at : ℕ) (goal out : List ℕ) (to : ℕ) : Type 0 where
  pub rs : List Rec
  pub rest : Rest f at rs
  pub room : to + length (normal_run rs) ≤ length out
  pub whole : put out to (normal_run rs) ≡ goal

-- the first four bytes
module _ (f : List ℕ) (h : Bytes f) (a : Accepted f) where
  pub long : 4 ≤ length f
  long = (first_rest f h a).inside

  pub four : length (take 4 f) ≡ 4
  four = length-take-le 4 f long

  -- the goal of the loop, whose output begins with the first four bytes
  pub written-first : (out : List ℕ) → length (normal_form f) ≤ length out → Written f 4 (put out 4 (normal_run (records_of f))) out 4
  written-first out l =
      let e = form-long f long in
      record { rs = records_of f; rest = first_rest f h a; room = omega arith; whole = refl }

  pub written-form : (out : List ℕ) → put (put out 0 (take 4 f)) 4 (normal_run (records_of f)) ≡ put out 0 (normal_form f)
  written-form out = put_next out 0 4 4 (take 4 f) (normal_run (records_of f)) four refl ∙ ap (put out 0) (sym (form-is f))

-- a known record
module _ (f : List ℕ) (y : Bytes f) (at : ℕ) (goal out : List ℕ) (to : ℕ) (c : Written f at goal out to) (k : KnownRecord) (n : First f at k c.rs) where
  abbrev rec : Rec
  rec = rec_at f k.at k.size

  abbrev form : List ℕ
  form = bytes_of (normal_of k.kind rec)

  run_is : normal_run c.rs ≡ form ++ normal_run n.more
  unfolding normal_run
  run_is = ap (λ (ns : List Known). join bytes_of (normals ns)) n.sequence

  long_as : length form ≡ k.size
  unfolding rec_at
  long_as =
      length-of (normal_of k.kind rec)
      ∙ size-normal k.kind rec (Bytes-take (k.size - 4) (drop (k.at + 4) f) (Bytes-drop (k.at + 4) f y)) (fits-of n.kept.here _ rec n.kept.kept)
      ∙ held-size f k.at n.held

  run_long : length (normal_run c.rs) ≡ k.size + length (normal_run n.more)
  run_long = ap length run_is ∙ length-append form (normal_run n.more) ∙ ap (λ (x : ℕ). x + length (normal_run n.more)) long_as

  pub copyable : Copyable k.kind f k.at k.size out to
  copyable =
      record { held = n.held; says = n.says; fits = fits-of n.kept.here _ rec n.kept.kept; room = (let r = c.room in let q = run_long in omega arith) }

  pub written_on : (new : List ℕ) → new ≡ put out to form → Written f (k.at + k.size) goal new (to + k.size)
  written_on new d =
      let l : length new ≡ length out = ap length d ∙ put-length out to form in
      record {
        rs = n.more;
        rest = n.rest;
        room = (let r = c.room in let q = run_long in omega arith);
        whole = ap (λ (x : List ℕ). put x (to + k.size) (normal_run n.more)) d ∙ put_next out to k.size (to + k.size) form (normal_run n.more) long_as refl ∙ ap (put out to) (sym run_is) ∙ c.whole;
      }

-- no known record is left
pub written_all : (f : List ℕ) (at : ℕ) (goal out : List ℕ) (to : ℕ) (c : Written f at goal out to) → known c.rs ≡ [] → out ≡ goal
unfolding normal_run
written_all f at goal out to c e = sym (put-nil out to) ∙ ap (λ (ns : List Known). put out to (join bytes_of (normals ns))) (sym e) ∙ c.whole

-- ---- the whole output

left_is : (f out : List ℕ) → length (normal_form f) ≤ length out → put out 0 (normal_form f) ≡ normal_form f ++ drop (length (normal_form f)) out
left_is f out h =
    let z : 0 + length (normal_form f) ≡ length (normal_form f) = omega arith in
    put_is out 0 (normal_form f) (omega arith) ∙ ap (λ (n : ℕ). normal_form f ++ drop n out) z

module _ (f out : List ℕ) where
  pub made-refused : {r : FileRefusal} → verdict_of f ≡ Err r → (Err (of_file r) ≡ normal_answer_of f (length out)) × (out ≡ output_after f out)
  unfolding normal_answer_of output_after
  made-refused e = (sym (ap (λ (v : Verdict). made v f (length out)) e), sym (ap (λ (v : Verdict). left v f out) e))

  module _ (e : verdict_of f ≡ accepted) where
    pub by-room : (b : Bool) → room_for f (length out) ≡ b → (cond b (of_length (length (normal_form f))) (refused_with 14 None) ≡ normal_answer_of f (length out)) × (cond b (normal_form f ++ drop (length (normal_form f)) out) out ≡ output_after f out)
    unfolding normal_answer_of output_after
    by-room b r = (
      sym (ap (λ (v : Verdict). made v f (length out)) e ∙ ap (λ (x : Bool). cond x (of_length (length (normal_form f))) (refused_with 14 None)) r),
      sym (ap (λ (v : Verdict). left v f out) e ∙ ap (λ (x : Bool). cond x (normal_form f ++ drop (length (normal_form f)) out) out) r),
    )

    pub made-short : {n : ℕ} → n ≡ length (normal_form f) → length out < n → (refused_with 14 None ≡ normal_answer_of f (length out)) × (out ≡ output_after f out)
    made-short q l = by-room false (lt-leb (length (normal_form f)) (length out) (omega arith))

    pub made-whole : {n : ℕ} (new : List ℕ) → n ≡ length (normal_form f) → n ≤ length out → new ≡ put out 0 (normal_form f) → (of_length n ≡ normal_answer_of f (length out)) × (new ≡ output_after f out)
    made-whole new q l d =
        let h : length (normal_form f) ≤ length out = omega arith in
        let r = by-room true (le-leb (length (normal_form f)) (length out) h) in
        (ap of_length q ∙ r.0, d ∙ left_is f out h ∙ r.1)
