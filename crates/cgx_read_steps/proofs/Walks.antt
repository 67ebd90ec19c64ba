-- The laws of the loop over a file. Assumes nothing.
use Rattle.std.specs.Prelude.{Err}
use native.Mathlib.Omega.{arith}
use mathlib.Core.Path.{◌≡◌, refl, sym, ap, ◌∙◌, subst}
use mathlib.Core.List.{List, []}
use Prim.Native.Nat.{ℕ, zero, suc, ◌+◌}
use lib.ListN.{length, drop, get_or}
use Rattle.cgx_spec.specs.Kinds.{kind_of}
use Rattle.cgx_spec.specs.Order.{start, next}
use Rattle.cgx_spec.specs.Records.{Placed, context_after}
use Rattle.cgx_spec.specs.Files.{stop, opening, opened, begin, before, walk, walk_of, verdict_of}
use Rattle.cgx_spec.specs.Walking.{rec_at, Held, walk_from}
use Rattle.cgx_spec.specs.declared.Context.{Context}
use Rattle.cgx_spec.specs.Verdicts.{Verdict}
use Rattle.cgx_spec.specs.Verdicts.{refused as Refused}
use Rattle.cgx_spec.proofs.Loop.{from-stop, from-go}
use Rattle.cgx_format_headers.specs.declared.Header.{Header}
use Rattle.cgx_format_headers.specs.Headers.{opened as said}
use Rattle.cgx_spec.specs.declared.FileRefusal.{FileRefusal}
use Rattle.cgx_format_headers.proofs.Heads.{held-size}
use Rattle.cgx_read_steps.specs.Steps.{step_meant, Good, GoodHeader, StepIn, Steps, Stepped, ends, gives}

stopped : (k : ℕ) (v : Verdict) → (walk k (stop v)).verdict ≡ v
unfolding walk
stopped zero v = refl
stopped (suc k) v = refl

pub walked_all : (f : List ℕ) → opening f ≡ 0 → walk_of f ≡ walk_from f start 4
unfolding walk_of walk_from begin
walked_all f z = ap (λ (k : ℕ). walk (length f) (opened k (drop 4 f))) z

pub not-begun : (f : List ℕ) (k : ℕ) → k ≡ opening f → (k ≡ 0 → ⊥) → Refused k 0 ≡ verdict_of f
unfolding verdict_of walk_of begin
not-begun f zero e z = absurd (z refl)
not-begun f (suc k) e z = sym (ap (λ (n : ℕ). (walk (length f) (opened n (drop 4 f))).verdict) (sym e) ∙ stopped (length f) (Refused (suc k) 0))

-- what is said of the first four bytes is said of the file
pub opening-refused : (f : List ℕ) {k : FileRefusal} → Err k ≡ said (opening f) → Err k ≡ verdict_of f
opening-refused f {k} q = go (opening f) refl q
  where
    go : (n : ℕ) → n ≡ opening f → Err k ≡ said n → Err k ≡ verdict_of f
    go zero e z = absurd (let x : ◌≡◌ {A = ℕ} 0 1 = cc in omega arith)
    go (suc n) e z = z ∙ not-begun f (suc n) e (λ y. omega arith)

module _ (f : List ℕ) (c : Context) (at : ℕ) {r : Stepped} (e : Steps f c at r) where
  pub good-header : {h : Header} → r ≡ gives h → GoodHeader f c at h
  good-header q = subst (StepIn f c at) q e.inside

  pub good : {h : Header} → r ≡ gives h → Good f c at h.size
  good q = (good-header q).good

  pub held : {h : Header} → r ≡ gives h → Held f at h.size
  held q = (good q).held

  -- nothing is walked where a walk stops
  pub walked_stop : {w : Verdict} → r ≡ ends w → walk_from f c at ≡ record { records = []; verdict = w }
  unfolding step_meant
  walked_stop {w} q = from-stop f c at w (e.steps ∙ ap (step_meant f c at) q)

  -- a good record, and then the walk from the offset after it
  pub walked-go : {h : Header} {d : Context} → r ≡ gives h → d ≡ next c at (kind_of (get_or f (at + 2) 0)) → walk_from f c at ≡ before (record { at = at; context = c; rec = rec_at f at h.size }) (walk_from f d (at + h.size))
  unfolding step_meant context_after rec_at
  walked-go {h} {d} q z =
      let n = h.size in
      let p : Placed = record { at = at; context = c; rec = rec_at f at n } in
      from-go f c at p (drop (at + n) f) (e.steps ∙ ap (step_meant f c at) q)
      ∙ ap (λ (x : ℕ). before p (walk_from f (next c at (kind_of (get_or f (at + 2) 0))) (at + x))) (held-size f at (held q))
      ∙ ap (λ (x : Context). before p (walk_from f x (at + n))) (sym z)
