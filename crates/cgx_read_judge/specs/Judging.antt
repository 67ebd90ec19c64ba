-- What the judge says of the walk from an offset on, after any context that the phase fits. Definitions only.
use Rattle.std.specs.Prelude.{List, [], ◌≡◌, ℕ, ◌+◌, None, Ok, Err, Option, Some, Result}
use Rattle.cgx_spec.specs.declared.Context.{Context}
use Rattle.cgx_spec.specs.Verdicts.{Verdict}
use Rattle.cgx_spec.specs.Verdicts.{accepted, refused}
use Rattle.cgx_spec.specs.declared.FileRefusal.{FileRefusal}
use Rattle.cgx_spec.specs.Demands.{NamedFrom}
use Rattle.cgx_spec.specs.Order.{next}
use Rattle.cgx_spec.specs.Records.{Placed, fault_of}
use Rattle.cgx_spec.specs.Files.{Walk, before}
use Rattle.cgx_spec.specs.Walking.{rec_at, Held, walk_from}
use Rattle.cgx_format_headers.specs.declared.Header.{Header}
use Rattle.cgx_format_headers.specs.Headers.{header_of}
use Rattle.cgx_format_phases.specs.declared.Phase.{Phase}
use Rattle.cgx_format_phases.specs.Phases.{Fits}
use Rattle.cgx_read_judge.specs.declared.Judged.{Judged}

-- The walk that ends at once.
abbrev pub ended : Verdict → Walk
ended v = record { records = []; verdict = v }

-- The record of a header at an offset after a context, and the context after it.
abbrev pub placed_by : List ℕ → Context → ℕ → Header → Placed
placed_by f c at h = record { at = at; context = c; rec = rec_at f at h.size }

abbrev pub after : Context → ℕ → Header → Context
after c at h = next c at h.kind

-- A refusal names the offset.
abbrev pub Here : ℕ → Verdict → Type 0
Here at (Ok _) = Unit {0}
Here at (Err r) = r.at ≡ at

-- The walk ends there, with a refusal that 01 numbers, if any.
pub record Ends (f : List ℕ) (c : Context) (at : ℕ) (v : Verdict) : Type 0 where
  pub walk : walk_from f c at ≡ ended v
  pub named : NamedFrom 3 v
  pub here : Here at v

-- A good record is there, and the walk goes on after it.
pub record Goes (f : List ℕ) (c : Context) (at : ℕ) (h : Header) (q : Phase) : Type 0 where
  pub kept : fault_of c (rec_at f at h.size) ≡ None
  pub fits : Fits q (after c at h)
  pub walk : walk_from f c at ≡ before (placed_by f c at h) (walk_from f (after c at h) (at + h.size))

pub record Good (f : List ℕ) (p : Phase) (at : ℕ) (h : Header) (q : Phase) : Type 0 where
  pub held : Held f at h.size
  pub read : h ≡ header_of f at
  pub goes : (c : Context) → Fits p c → Goes f c at h q

unfoldable pub Judges : List ℕ → Phase → ℕ → Result (Option Judged) FileRefusal → Type 0
Judges f p at (Err r) = (c : Context) → Fits p c → Ends f c at (Err r)
Judges f p at (Ok None) = (c : Context) → Fits p c → Ends f c at accepted
Judges f p at (Ok (Some j)) = Good f p at j.header j.phase
