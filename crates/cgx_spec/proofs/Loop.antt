-- Laws for a loop that walks through a file with a context and an offset: no count of steps is left in them.
use mathlib.Core.Path.{◌≡◌, refl, ap, ◌∙◌, subst}
use mathlib.Core.List.{List, [], ◌++◌}
use Prim.Native.Nat.{ℕ, zero, suc, ◌+◌, ◌≤◌, ◌<◌}
use native.Mathlib.Omega.{arith}
use lib.ListN.{length, drop, length-drop}
use lib.Seq.{drop-drop}
use Rattle.cgx_spec.specs.declared.Context.{Context}
use Rattle.cgx_spec.specs.Verdicts.{Verdict}
use Rattle.cgx_spec.specs.Order.{start}
use Rattle.cgx_spec.specs.Records.{size, Placed, context_after}
use Rattle.cgx_spec.specs.Files.{Step, stop, go, step, before, walk, header, opening, begin, walk_of}
use Rattle.cgx_spec.specs.Walking.{walk_from}
use Rattle.cgx_spec.proofs.Verdicts.{StepNamed, step-named}
use Rattle.cgx_spec.proofs.Steps.{StepAt, step-at}

-- with steps enough, their number does not matter
fuel : (k j : ℕ) (bs : List ℕ) (st : Step) → StepNamed bs st → length bs ≤ k → length bs ≤ j → walk k st ≡ walk j st
unfolding walk
fuel zero zero bs (stop v) h lk lj = refl
fuel zero (suc j) bs (stop v) h lk lj = refl
fuel (suc k) zero bs (stop v) h lk lj = refl
fuel (suc k) (suc j) bs (stop v) h lk lj = refl
fuel zero j bs (go p rest) h lk lj = absurd (omega arith)
fuel (suc k) zero bs (go p rest) h lk lj = absurd (omega arith)
fuel (suc k) (suc j) bs (go p rest) h lk lj =
    let at = p.at + size p.rec in
    ap (before p) (fuel k j rest (step (context_after p) at rest) (step-named (context_after p) at rest) (omega arith) (omega arith))

-- the whole file is the walk from offset 4
pub from_start_lem : (bs : List ℕ) → walk_of (header ++ bs) ≡ walk_from (header ++ bs) start 4
unfolding walk_of begin opening walk_from
from_start_lem bs = refl

-- a step that stops ends the walk
pub from-stop : (f : List ℕ) (c : Context) (at : ℕ) (v : Verdict) → step c at (drop at f) ≡ stop v → walk_from f c at ≡ record { records = []; verdict = v }
unfolding walk_from walk
from-stop f c at v e = rw e (one (length f))
  where
    one : (k : ℕ) → walk k (stop v) ≡ record { records = []; verdict = v }
    one zero = refl
    one (suc k) = refl

-- a step that gives a record goes on after it
pub from-go : (f : List ℕ) (c : Context) (at : ℕ) (p : Placed) (rest : List ℕ) → step c at (drop at f) ≡ go p rest → walk_from f c at ≡ before p (walk_from f (context_after p) (at + size p.rec))
unfolding walk_from walk
from-go f c at p rest e =
    let n : StepNamed (drop at f) (go p rest) = subst (StepNamed (drop at f)) e (step-named c at (drop at f)) in
    let s : StepAt (drop at f) c at (go p rest) = subst (StepAt (drop at f) c at) e (step-at c at (drop at f)) in
    rw e (one (length f) n s (omega (arith, length-drop at f)))
  where
    one : (k : ℕ) → length rest < length (drop at f) → StepAt (drop at f) c at (go p rest) → length (drop at f) ≤ k → walk k (go p rest) ≡ before p (walk (length f) (step (context_after p) (at + size p.rec) (drop (at + size p.rec) f)))
    one zero n s l = absurd (omega arith)
    one (suc k) n s l =
        let at' = at + size p.rec in
        let q : rest ≡ drop at' f = s.0 ∙ drop-drop (size p.rec) at f in
        let t : walk k (step (context_after p) at' rest) ≡ walk (length f) (step (context_after p) at' rest) = fuel k (length f) rest (step (context_after p) at' rest) (step-named (context_after p) at' rest) (omega arith) (omega (arith, length-drop at f)) in
        ap (λ (x : ℕ). before p (walk k (step (context_after p) (x + size p.rec) rest))) s.3 ∙ ap (before p) t ∙ ap (λ (x : List ℕ). before p (walk (length f) (step (context_after p) at' x))) q
