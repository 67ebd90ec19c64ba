-- Only one verdict is true: good records lead on in one way, and one check is the first that fails. Assumes nothing.
use Rattle.std.specs.Prelude.{Err, Ok}
use mathlib.Core.Path.{◌≡◌, refl, sym, ap, ap₂, ◌∙◌, subst}
use mathlib.Core.Logic.{◌⊎◌, inl, inr}
use mathlib.Core.Bool.{Bool, true, false}
use mathlib.Core.List.{List, [], ◌∷◌}
use Prim.Native.Nat.{ℕ, zero, suc, ◌+◌, ◌<◌}
use native.Mathlib.Decide.{ℕ_discrete}
use native.Mathlib.Omega.{arith}
use borrow.Author.Tests.{ltb-true, ltb-false}
use lib.Dec.{ltb}
use lib.ListN.{length, drop, length-drop}
use Rattle.cgx_spec.specs.Verdicts.{Verdict}
use Rattle.cgx_spec.specs.Verdicts.{accepted, refused}
use Rattle.cgx_spec.specs.Fields.{All}
use Rattle.cgx_spec.specs.Restated.{RecordBefore, end_before}
use Rattle.cgx_spec.specs.Checks.{FirstFails, size_in, type_in, Check, none_left, number_of, Passes, file_checks, checks_at, GoodAt, GoodUpTo, begun, known_next, unknown_next, AllGood, NotBegun, Stopped, True}
use Rattle.cgx_spec.proofs.Firsts.{clash, never_both, one-first}
use Rattle.cgx_spec.proofs.Truth.{onward, onward-known, onward-unknown}

-- ---- good records lead on in one way

record Spot : Type 0 where
  before : List RecordBefore
  at : ℕ

abbrev spot : List RecordBefore → ℕ → Spot
spot bs at = record { before = bs; at = at }

module _ (f : List ℕ) where
  abbrev from : Spot → List ℕ
  from s = drop s.at f

  advance : Spot → Spot
  advance s = spot (onward (type_in (from s)) s.at s.before) (s.at + size_in (from s))

  reach : ℕ → Spot
  reach zero = spot [] 4
  reach (suc n) = advance (reach n)

  abbrev Moves : Spot → Type 0
  Moves s = GoodAt f s.before s.at

  record Came (s : Spot) : Type 0 where
    steps : ℕ
    is : s ≡ reach steps
    moves : (m : ℕ) → m < steps → Moves (reach m)

  one_more : (s : Spot) → Came s → Moves s → Came (advance s)
  unfolding reach
  one_more s c w = record { steps = suc c.steps; is = ap advance c.is; moves = all }
    where
      all : (m : ℕ) → m < suc c.steps → Moves (reach m)
      all m l = pick (ℕ_discrete m c.steps)
        where
          pick : Dec (m ≡ c.steps) → Moves (reach m)
          pick (yes q) = subst (λ (k : ℕ). Moves (reach k)) (sym q) (subst Moves c.is w)
          pick (no n) = c.moves m (omega arith)

  came : {bs : List RecordBefore} {at : ℕ} → GoodUpTo f bs at → Came (spot bs at)
  unfolding reach advance
  came (begun p) = record { steps = 0; is = refl; moves = λ m l. absurd (omega arith) }
  came (known_next {bs} {at} k g h e) =
      subst (λ (l : List RecordBefore). Came (spot l (at + size_in (drop at f)))) (onward-known k (type_in (drop at f)) at bs e) (one_more (spot bs at) (came g) h)
  came (unknown_next {bs} {at} g h l) =
      subst (λ (l : List RecordBefore). Came (spot l (at + size_in (drop at f)))) (onward-unknown (type_in (drop at f)) at bs l) (one_more (spot bs at) (came g) h)

  -- two spots from which no good record leads on are one
  same_spot : {s s' : Spot} → Came s → (Moves s → ⊥) → Came s' → (Moves s' → ⊥) → s ≡ s'
  same_spot {s} {s'} c n c' n' = one (ltb c.steps c'.steps) refl (ltb c'.steps c.steps) refl
    where
      one : (x : Bool) → ltb c.steps c'.steps ≡ x → (y : Bool) → ltb c'.steps c.steps ≡ y → s ≡ s'
      one true e y e' = absurd (n (subst Moves (sym c.is) (c'.moves c.steps (ltb-true c.steps c'.steps e))))
      one false e true e' = absurd (n' (subst Moves (sym c'.is) (c.moves c'.steps (ltb-true c'.steps c.steps e'))))
      one false e false e' =
          let l = ltb-false c.steps c'.steps e in
          let l' = ltb-false c'.steps c.steps e' in
          let q : c.steps ≡ c'.steps = omega arith in
          c.is ∙ ap reach q ∙ sym c'.is

  well-begun : {bs : List RecordBefore} {at : ℕ} → GoodUpTo f bs at → All (Passes [] f) file_checks
  well-begun (begun p) = p
  well-begun (known_next k g h e) = well-begun g
  well-begun (unknown_next g h l) = well-begun g

  -- ---- refusals

  -- where a refusal says that the file is left, and why
  record Left (s : Spot) (n : ℕ) : Type 0 where
    check : Check
    number : n ≡ number_of check
    first : FirstFails (Passes s.before (from s)) (checks_at (end_before s.before)) check

  left : {n at : ℕ} (s : Stopped f n at) → Left (spot s.before at) n
  left s = record { check = s.check; number = s.number; first = s.first }

  stuck : {s : Spot} {n : ℕ} → Left s n → Moves s → ⊥
  stuck {s} t w = never_both w.good (subst (λ (z : Bool). FirstFails (Passes s.before (from s)) (checks_at z) t.check) w.running t.first)

  one_number : {s : Spot} {n m : ℕ} → Left s n → Left s m → n ≡ m
  one_number {s} t u = t.number ∙ ap number_of (one-first (Passes s.before (from s)) t.first u.first) ∙ sym u.number

  one-stopped : (n at m to : ℕ) → Stopped f n at → Stopped f m to → refused n at ≡ refused m to
  one-stopped n at m to s u =
      let e = same_spot (came s.earlier) (stuck (left s)) (came u.earlier) (stuck (left u)) in
      ap₂ refused (one_number (left s) (subst (λ (z : Spot). Left z m) (sym e) (left u))) (ap (λ (z : Spot). z.at) e)

  one-not-begun : (n at m to : ℕ) → NotBegun f n at → NotBegun f m to → refused n at ≡ refused m to
  one-not-begun n at m to s u =
      ap₂ refused (s.number ∙ ap number_of (one-first (Passes [] f) s.first u.first) ∙ sym u.number) (s.place ∙ sym u.place)

  not-both : (n at : ℕ) → AllGood f → NotBegun f n at ⊎ Stopped f n at → ⊥
  not-both n at g (inl s) = never_both (well-begun g.good) s.first
  not-both n at g (inr s) =
      let e = same_spot (came g.good) (λ w. clash g.last w.running) (came s.earlier) (stuck (left s)) in
      let t = subst (λ (z : Spot). Left z n) (sym e) (left s) in
      let l : FirstFails (Passes g.before (drop (length f) f)) (none_left ∷ []) t.check = subst (λ (z : Bool). FirstFails (Passes g.before (drop (length f) f)) (checks_at z) t.check) g.last t.first in
      never_both (omega (arith, length-drop (length f) f), tt) l

  pub one-true : (v w : Verdict) → True f v → True f w → v ≡ w
  one-true (Ok _) (Ok _) h k = refl
  one-true (Ok _) (Err r) h k = absurd (not-both r.number r.at h k)
  one-true (Err r) (Ok _) h k = absurd (not-both r.number r.at k h)
  one-true (Err r) (Err q) (inl s) (inl u) = one-not-begun r.number r.at q.number q.at s u
  one-true (Err r) (Err q) (inl s) (inr u) = absurd (never_both (well-begun u.earlier) s.first)
  one-true (Err r) (Err q) (inr s) (inl u) = absurd (never_both (well-begun s.earlier) u.first)
  one-true (Err r) (Err q) (inr s) (inr u) = one-stopped r.number r.at q.number q.at s u
