-- What `measure` asks of a walk, and what an answer says. Assumes nothing.
use Rattle.std.specs.Prelude.{None, Option, Result, Ok, Err}
use mathlib.Core.Path.{◌≡◌, refl, sym, ap, ◌∙◌}
use mathlib.Core.List.{List, [], ◌∷◌}
use Prim.Native.Nat.{ℕ, ◌+◌, ◌-◌, ◌≤◌}
use native.Mathlib.Omega.{arith}
use lib.ListN.{length, drop, get_or, length-append}
use Rattle.cgx_spec.specs.declared.Kind.{Kind}
use Rattle.cgx_spec.specs.declared.Context.{Context}
use Rattle.cgx_spec.specs.Verdicts.{Verdict}
use Rattle.cgx_spec.specs.Verdicts.{accepted, refused}
use Rattle.cgx_spec.specs.Numbers.{Bytes}
use Rattle.cgx_spec.specs.Kinds.{kind_of}
use Rattle.cgx_spec.specs.Order.{allowed}
use Rattle.cgx_spec.specs.Records.{fault_of}
use Rattle.cgx_spec.specs.Files.{Walk, before, walk_of, records_of, verdict_of, normal_form}
use Rattle.cgx_spec.specs.Walking.{rec_at, Held}
use Rattle.cgx_spec.proofs.Chain.{recs}
use Rattle.cgx_spec.proofs.Lists.{Bytes-take, Bytes-drop}
use Rattle.cgx_format_headers.proofs.Heads.{held-size}
use Rattle.cgx_format_headers.specs.declared.Header.{Header}
use Rattle.cgx_format_headers.specs.Headers.{header_of}
use Rattle.cgx_format_headers.proofs.HeaderLaws.{kind-says}
use Rattle.cgx_read_judge.specs.Judging.{ended, placed_by}
use Rattle.cgx_read_check.specs.Measure.{measured, measure_of, normal_run, taken}
use Rattle.cgx_spec.specs.declared.FileRefusal.{FileRefusal}
use Rattle.cgx_read_check.proofs.Runs.{fits-of, run-nil, run-cons, run_length, form-long}

-- ---- the question: with m bytes of the normal form before the rest of the walk

abbrev pub ask : ℕ → Walk → Result ℕ FileRefusal
ask m w = measured w.verdict (m + length (normal_run (recs w)))

pub ask-all : (f : List ℕ) → 4 ≤ length f → measure_of f ≡ ask 4 (walk_of f)
unfolding measure_of verdict_of records_of
ask-all f h = ap (measured (walk_of f).verdict) (form-long f h)

pub ask-stop : (m : ℕ) (v : Verdict) → ask m (ended v) ≡ measured v m
ask-stop m v =
    let z : m + length (normal_run []) ≡ m = ap (λ (l : List ℕ). m + length l) run-nil ∙ (omega arith) in
    ap (measured v) z

module _ (f : List ℕ) (y : Bytes f) (c : Context) (at : ℕ) {h : Header} (i : Held f at h.size) (e : h ≡ header_of f at) (k : fault_of c (rec_at f at h.size) ≡ None) where
  takes : length (normal_run (rec_at f at h.size ∷ [])) ≡ taken h.kind h.size
  unfolding rec_at
  takes =
      let o = kind_of (get_or f (at + 2) 0) in
      run_length (rec_at f at h.size) (Bytes-take (h.size - 4) (drop (at + 4) f) (Bytes-drop (at + 4) f y)) (fits-of (allowed c o) o (rec_at f at h.size) k)
      ∙ ap (taken o) (held-size f at i)
      ∙ ap (λ (x : Option Kind). taken x h.size) (sym (kind-says f at e))

  pub ask-go : (m x : ℕ) (w : Walk) → x ≡ taken h.kind h.size → ask m (before (placed_by f c at h) w) ≡ ask (m + x) w
  ask-go m x w z =
      let r = rec_at f at h.size in
      let l = ap length (run-cons r (recs w)) ∙ length-append (normal_run (r ∷ [])) (normal_run (recs w)) in
      let t = takes in
      let s : m + length (normal_run (r ∷ recs w)) ≡ m + x + length (normal_run (recs w)) = omega arith in
      ap (measured w.verdict) s

-- ---- what an answer says

pub measured-refused : (f : List ℕ) {k : FileRefusal} → Err k ≡ verdict_of f → Err k ≡ measure_of f
unfolding measure_of
measured-refused f e = ap (λ (v : Verdict). measured v (length (normal_form f))) e

abbrev verdict : Result ℕ FileRefusal → Verdict
verdict (Ok n) = accepted
verdict (Err r) = Err r

abbrev length_or : ℕ → Result ℕ FileRefusal → ℕ
length_or m (Ok n) = n
length_or m (Err r) = m

module _ (f : List ℕ) {r s : Result ℕ FileRefusal} (e : r ≡ measure_of f) (q : r ≡ s) where
  pub verdict-is : verdict s ≡ verdict_of f
  unfolding measure_of
  verdict-is = ap verdict (sym q ∙ e) ∙ go (verdict_of f)
    where
      go : (v : Verdict) → verdict (measured v (length (normal_form f))) ≡ v
      go (Ok _) = refl
      go (Err r) = refl

  pub length-is : length_or (length (normal_form f)) s ≡ length (normal_form f)
  unfolding measure_of
  length-is = ap (length_or (length (normal_form f))) (sym q ∙ e) ∙ go (verdict_of f)
    where
      go : (v : Verdict) → length_or (length (normal_form f)) (measured v (length (normal_form f))) ≡ length (normal_form f)
      go (Ok _) = refl
      go (Err r) = refl
