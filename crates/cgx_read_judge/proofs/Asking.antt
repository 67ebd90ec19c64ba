-- The law of the loop over a file, for every question: its answer so far and the walk that is left are its answer. Assumes nothing.
use Rattle.std.specs.Prelude.{Result, Ok, Err, Option, None, Some}
use mathlib.Core.Path.{◌≡◌, ap, ◌∙◌, subst}
use mathlib.Core.List.{List}
use Prim.Native.Nat.{ℕ, ◌+◌, ◌≤◌}
use lib.ListN.{length}
use Rattle.cgx_spec.specs.declared.Context.{Context}
use Rattle.cgx_spec.specs.Verdicts.{Verdict}
use Rattle.cgx_spec.specs.Order.{start}
use Rattle.cgx_spec.specs.Records.{fault_of}
use Rattle.cgx_spec.specs.Files.{opening, Walk, before, walk_of}
use Rattle.cgx_spec.specs.Walking.{rec_at, walk_from}
use Rattle.cgx_format_headers.proofs.Openings.{opening-long}
use Rattle.cgx_read_steps.proofs.Walks.{walked_all}
use Rattle.cgx_format_headers.specs.declared.Header.{Header}
use Rattle.cgx_format_phases.specs.declared.Phase.{Phase}
use Rattle.cgx_format_phases.specs.declared.Phase.TheVariants.{Start}
use Rattle.cgx_format_phases.specs.Phases.{Fits}
use Rattle.cgx_format_phases.proofs.Fitting.{fits-start}
use Rattle.cgx_read_judge.specs.Judging.{ended, placed_by, after, Ends, Good, Judges}
use Rattle.cgx_read_judge.specs.declared.Judged.{Judged}
use Rattle.cgx_spec.specs.declared.FileRefusal.{FileRefusal}

-- what the judge says where the walk ends with a verdict
abbrev pub last : Verdict → Result (Option Judged) FileRefusal
last (Ok u) = Ok None
last (Err e) = Err e

-- ask s w: the answer, where s was found so far and the walk w is left
module _ {S A : Type 0} (ask : S → Walk → A) (answer : A) (f : List ℕ) where
  -- the invariant of the loop
  pub record Asked (p : Phase) (at : ℕ) (s : S) : Type 0 where
    pub context : Context
    pub fits : Fits p context
    pub inside : at ≤ length f
    pub rest : answer ≡ ask s (walk_from f context at)

  pub asked-start : (s : S) → opening f ≡ 0 → answer ≡ ask s (walk_of f) → Asked Start 4 s
  asked-start s z e = record { context = start; fits = fits-start; inside = opening-long f z; rest = e ∙ ap (ask s) (walked_all f z) }

  module _ (p : Phase) (at : ℕ) (s : S) (o : Asked p at s) {r : Result (Option Judged) FileRefusal} (j : Judges f p at r) where
    pub asked-ends : (v : Verdict) → r ≡ last v → Ends f o.context at v
    unfolding Judges
    asked-ends v q = go v (subst (Judges f p at) q j)
      where
        go : (v : Verdict) → Judges f p at (last v) → Ends f o.context at v
        go (Ok u) k = k o.context o.fits
        go (Err e) k = k o.context o.fits

    pub asked-stop : (v : Verdict) → r ≡ last v → answer ≡ ask s (ended v)
    asked-stop v q = o.rest ∙ ap (ask s) (asked-ends v q).walk

    pub asked-go : {g : Judged} (e : r ≡ Ok (Some g)) (t : S) → ((c : Context) (w : Walk) → fault_of c (rec_at f at g.header.size) ≡ None → ask s (before (placed_by f c at g.header) w) ≡ ask t w) → Asked g.phase (at + g.header.size) t
    unfolding Judges
    asked-go {g} e t k =
        let x : Good f p at g.header g.phase = subst (Judges f p at) e j in
        let m = x.goes o.context o.fits in
        record {
          context = after o.context at g.header;
          fits = m.fits;
          inside = x.held.inside;
          rest = o.rest ∙ ap (ask s) m.walk ∙ k o.context (walk_from f (after o.context at g.header) (at + g.header.size)) m.kept;
        }

-- what the judge says of a good record
pub judged-good : (f : List ℕ) (p : Phase) (at : ℕ) {r : Result (Option Judged) FileRefusal} {g : Judged} → Judges f p at r → r ≡ Ok (Some g) → Good f p at g.header g.phase
unfolding Judges
judged-good f p at j e = subst (Judges f p at) e j
