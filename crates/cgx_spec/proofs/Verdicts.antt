-- Every file is accepted or refused with a number from 1 to 13, and every step is refused with 3 to 13 or 16: the walk has steps enough.
use Rattle.std.specs.Prelude.{None, Option, Some, Ok, Err}
use mathlib.Core.Path.{refl}
use mathlib.Core.Bool.{Bool, true, false, ◌&&◌, ◌||◌, cond}
use mathlib.Core.List.{List, [], ◌∷◌}
use Prim.Native.Nat.{ℕ, zero, suc, ◌+◌, ◌*◌, ◌%◌, ◌-◌, ◌≤◌, ◌<◌}
use native.Mathlib.Omega.{arith}
use lib.Dec.{ltb, eqb}
use lib.ListN.{length, take, drop, length-drop}
use Rattle.cgx_spec.specs.declared.Kind.{Kind}
use Rattle.cgx_spec.specs.declared.Context.{Context}
use Rattle.cgx_spec.specs.declared.Place.{Place}
use Rattle.cgx_spec.specs.Verdicts.{Verdict}
use Rattle.cgx_spec.specs.Verdicts.{accepted, refused}
use Rattle.cgx_spec.specs.Kinds.{kind_of}
use Rattle.cgx_spec.specs.Order.{start, allowed}
use Rattle.cgx_spec.specs.Records.{Rec, size, Rule, broken, rules, fault_of, context_after, view_of}
use Rattle.cgx_spec.specs.Files.{Cut, bad, found, cut_body, cut, Step, stop, go, settle, judge, finish, step, walk, opening, opened, begin, walk_of, verdict_of}
use Rattle.cgx_spec.specs.Walking.{place_after, forged, seen, refused_at, ending, answer, step_of}
use Rattle.cgx_spec.specs.Demands.{NamedFrom, AnswerNamed}

-- ---- a record

abbrev NamedRule : Option ℕ → Type 0
NamedRule None = Unit {0}
NamedRule (Some n) = (3 ≤ n) × (n ≤ 13)

abbrev NamedRules : List Rule → Type 0
NamedRules [] = Unit {0}
NamedRules (r ∷ rs) = (3 ≤ r.number) × (r.number ≤ 13) × NamedRules rs

broken-named : (rs : List Rule) → NamedRules rs → NamedRule (broken rs)
unfolding broken
broken-named [] h = tt
broken-named (r ∷ rs) h = go r.kept (broken-named rs h.2)
  where
    go : (z : Bool) → NamedRule (broken rs) → NamedRule (cond z (broken rs) (Some r.number))
    go true ih = ih
    go false ih = (h.0, h.1)

rules-named : (here : Bool) (o : Option Kind) (r : Rec) → NamedRules (rules here o r)
unfolding rules
rules-named here None r = omega arith
rules-named here (Some k) r = omega arith

-- ---- a step

abbrev CutNamed : List ℕ → Cut → Type 0
CutNamed bs (bad n) = (3 ≤ n) × (n ≤ 13)
CutNamed bs (found r rest) = length rest < length bs

cut-named : (bs : List ℕ) → CutNamed bs (cut bs)
unfolding cut cut_body
cut-named [] = omega arith
cut-named (a ∷ []) = omega arith
cut-named (a ∷ b ∷ []) = omega arith
cut-named (a ∷ b ∷ t ∷ []) = omega arith
cut-named (a ∷ b ∷ t ∷ fl ∷ bs) = go (a * 256 + b) (eqb ((a * 256 + b) % 2) 1 || ltb (a * 256 + b) 4) (ltb (length bs) (a * 256 + b - 4))
  where
    go : (n : ℕ) (y z : Bool) → CutNamed (a ∷ b ∷ t ∷ fl ∷ bs) (cond y (bad 5) (cond z (bad 4) (found (record { type = t; flags = fl; body = take (n - 4) bs }) (drop (n - 4) bs))))
    go n true z = omega arith
    go n false true = omega arith
    go n false false = omega (arith, length-drop (n - 4) bs)

abbrev pub StepNamed : List ℕ → Step → Type 0
StepNamed bs (stop v) = NamedFrom 3 v
StepNamed bs (go p rest) = length rest < length bs

pub step-named : (c : Context) (at : ℕ) (bs : List ℕ) → StepNamed bs (step c at bs)
unfolding step judge settle finish
step-named c at bs = one c.ended bs (cut bs) (cut-named bs)
  where
    three : (bs : List ℕ) (r : Rec) (rest : List ℕ) → length rest < length bs → (o : Option ℕ) → NamedRule o → StepNamed bs (settle c at r rest o)
    three bs r rest h None n = h
    three bs r rest h (Some m) n = n

    two : (bs : List ℕ) (x : Cut) → CutNamed bs x → StepNamed bs (judge c at x)
    two bs (bad n) h = h
    two bs (found r rest) h = three bs r rest h (fault_of c r) (broken-named (rules (allowed c (kind_of r.type)) (kind_of r.type) r) (rules-named (allowed c (kind_of r.type)) (kind_of r.type) r))

    end : (bs : List ℕ) → NamedFrom 3 (finish at bs)
    end [] = tt
    end (b ∷ bs) = omega arith

    one : (z : Bool) (bs : List ℕ) (x : Cut) → CutNamed bs x → StepNamed bs (cond z (stop (finish at bs)) (judge c at x))
    one true bs x h = end bs
    one false bs x h = two bs x h

-- ---- a walk

late : (v : Verdict) → NamedFrom 3 v → NamedFrom 1 v
late (Ok _) h = tt
late (Err r) h = omega arith

walk-named : (k : ℕ) (bs : List ℕ) (st : Step) → StepNamed bs st → length bs ≤ k → NamedFrom 1 (walk k st).verdict
unfolding walk
walk-named zero bs (stop v) h l = late v h
walk-named (suc k) bs (stop v) h l = late v h
walk-named zero bs (go p rest) h l = absurd (omega arith)
walk-named (suc k) bs (go p rest) h l =
    walk-named k rest (step (context_after p) (p.at + size p.rec) rest) (step-named (context_after p) (p.at + size p.rec) rest) (omega arith)

pub begin-named : (f : List ℕ) → NamedFrom 1 (verdict_of f)
unfolding verdict_of walk_of begin opening walk
begin-named [] = omega arith
begin-named (a ∷ []) = omega arith
begin-named (a ∷ b ∷ []) = omega arith
begin-named (a ∷ b ∷ c ∷ []) = omega arith
begin-named (a ∷ b ∷ c ∷ l ∷ bs) = go (eqb a 99 && eqb b 103 && eqb c 120) (eqb l 0)
  where
    n : ℕ
    n = suc (suc (suc (suc (length bs))))

    go : (y z : Bool) → NamedFrom 1 (walk n (opened (cond y (cond z 0 2) 1) bs)).verdict
    go true true = walk-named n bs (step start 4 bs) (step-named start 4 bs) (omega arith)
    go true false = omega arith
    go false z = omega arith

-- ---- a step from any place

ending-named : (v : Verdict) → NamedFrom 3 v → AnswerNamed (ending v)
unfolding ending
ending-named (Ok _) h = tt
ending-named (Err r) h = h

answer-named : (k : ℕ) (bs : List ℕ) (st : Step) → StepNamed bs st → length bs ≤ k → AnswerNamed (answer k st)
unfolding answer
answer-named zero bs (stop v) h l = ending-named v h
answer-named (suc k) bs (stop v) h l = ending-named v h
answer-named zero bs (go p rest) h l = absurd (omega arith)
answer-named (suc k) bs (go p rest) h l =
    one (kind_of p.rec.type) (answer-named k rest (step (context_after p) (p.at + size p.rec) rest) (step-named (context_after p) (p.at + size p.rec) rest) (omega arith))
  where
    one : (o : Option Kind) → AnswerNamed (answer k (step (context_after p) (p.at + size p.rec) rest)) → AnswerNamed (elim o [ None ↦ answer k (step (context_after p) (p.at + size p.rec) rest) | Some kd ↦ seen (view_of kd p) (place_after p) ])
    one None ih = ih
    one (Some kd) ih = tt

pub steps-named : (f : List ℕ) (p : Place) → AnswerNamed (step_of f p)
unfolding step_of
steps-named f p = go (forged (length f) p)
  where
    go : (z : Bool) → AnswerNamed (cond z (refused_at 16 None) (answer (length f) (step p.context p.at (drop p.at f))))
    go true = refl
    go false = answer-named (length f) (drop p.at f) (step p.context p.at (drop p.at f)) (step-named p.context p.at (drop p.at f)) (omega (arith, length-drop p.at f))
