-- What is proved of an extent, from the law on hulls and the definition of the answer. Assumes nothing.
use Rattle.std.specs.Prelude.{None, Option, Some, Ok, Err}
use mathlib.Core.Path.{◌≡◌, refl, ap, ◌∙◌, subst}
use mathlib.Core.List.{List, [], ◌∷◌}
use Prim.Native.Nat.{ℕ}
use native.Mathlib.Omega.{arith}
use Rattle.cgx_spec.specs.Verdicts.{Verdict}
use Rattle.cgx_spec.specs.Verdicts.{accepted, refused}
use Rattle.cgx_spec.specs.Files.{Known, Accepted, sequence, verdict_of}
use Rattle.cgx_format_kinds.specs.declared.Point.{Point}
use Rattle.cgx_format_kinds.specs.declared.Sides.{Sides}
use Rattle.cgx_ask_extent.specs.Extent.{not_found, found, points, hull, Least, Right, cell_of, around, answer_on, extent_of}
use Rattle.cgx_ask_extent.specs.Demand.{LeastOf, NoPoints, Answers, ExtentDemand}
use Rattle.cgx_ask_extent.proofs.Hulls.{hull-right}

-- ---- the right rectangle, one way and the other

right_of : (ps : List Point) (s : Sides) → Right ps (Some s) → Least ps s
right_of [] s r = absurd r
right_of (p ∷ ps) s r = r

right-none : (ps : List Point) → Right ps None → ps ≡ []
right-none [] r = refl
right-none (p ∷ ps) r = absurd r

-- ---- what is answered tells the verdict and the cell

found-least : (v : Verdict) (c : Option (List Known)) (s : Sides) → answer_on v (around c) ≡ found (Some s) → LeastOf c s
unfolding answer_on around
found-least (Ok _) None s e = absurd (let z : ◌≡◌ {A = ℕ} 0 1 = cc in omega arith)
found-least (Ok _) (Some ns) s e = let r : hull (points ns) ≡ Some s = cc in right_of (points ns) s (subst (Right (points ns)) r (hull-right (points ns)))
found-least (Err r) o s e = absurd (let z : ◌≡◌ {A = ℕ} 0 1 = cc in omega arith)

found_nothing : (v : Verdict) (c : Option (List Known)) → answer_on v (around c) ≡ found None → NoPoints c
unfolding answer_on around
found_nothing (Ok _) None e = absurd (let z : ◌≡◌ {A = ℕ} 0 1 = cc in omega arith)
found_nothing (Ok _) (Some ns) e = let r : hull (points ns) ≡ None = cc in right-none (points ns) (subst (Right (points ns)) r (hull-right (points ns)))
found_nothing (Err r) o e = absurd (let z : ◌≡◌ {A = ℕ} 0 1 = cc in omega arith)

refused-on : (o : Option (Option Sides)) (n p : ℕ) → answer_on (refused n p) o ≡ not_found n (Some p)
unfolding answer_on
refused-on o n p = refl

-- ---- of files

least : (f : List ℕ) (k : ℕ) (s : Sides) → extent_of f k ≡ found (Some s) → LeastOf (cell_of k (sequence f)) s
unfolding extent_of
least f k s e = found-least (verdict_of f) (cell_of k (sequence f)) s e

nothing : (f : List ℕ) (k : ℕ) → extent_of f k ≡ found None → NoPoints (cell_of k (sequence f))
unfolding extent_of
nothing f k e = found_nothing (verdict_of f) (cell_of k (sequence f)) e

answered : (f : List ℕ) (k : ℕ) (cell : List Known) → Accepted f → cell_of k (sequence f) ≡ Some cell → Answers (points cell) (extent_of f k)
unfolding extent_of Accepted answer_on around
answered f k cell a e = rw (a, e) (hull-right (points cell))

refusal : (f : List ℕ) (k n p : ℕ) → verdict_of f ≡ refused n p → extent_of f k ≡ not_found n (Some p)
unfolding extent_of
refusal f k n p e = ap (λ (v : Verdict). answer_on v (around (cell_of k (sequence f)))) e ∙ refused-on (around (cell_of k (sequence f))) n p

no_cell : (f : List ℕ) (k : ℕ) → Accepted f → cell_of k (sequence f) ≡ None → extent_of f k ≡ not_found 16 None
unfolding extent_of Accepted answer_on around
no_cell f k a e = rw (a, e) refl

pub extent-demand : ExtentDemand
extent-demand = record { least = least; nothing = nothing; answered = answered; refusal = refusal; no_cell = no_cell }
