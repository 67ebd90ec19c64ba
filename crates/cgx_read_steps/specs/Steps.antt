-- What a step over one record comes to, in the terms of the format. Definitions only.
use Rattle.std.specs.Prelude.{List, ◌≡◌, ℕ, ◌+◌, drop, None}
use Rattle.cgx_spec.specs.declared.Context.{Context}
use Rattle.cgx_spec.specs.Verdicts.{Verdict}
use Rattle.cgx_spec.specs.Records.{fault_of}
use Rattle.cgx_spec.specs.Files.{Step, stop, go, step}
use Rattle.cgx_spec.specs.Walking.{rec_at, Held}
use Rattle.cgx_format_headers.specs.declared.Header.{Header}
use Rattle.cgx_format_headers.specs.Headers.{header_of}

-- What comes of the record at an offset: the end of a walk, or the header of a good record.
pub data Stepped : Type 0 where
  ends : Verdict → Stepped
  gives : Header → Stepped

unfoldable pub step_meant : List ℕ → Context → ℕ → Stepped → Step
step_meant f c at (ends v) = stop v
step_meant f c at (gives h) = go (record { at = at; context = c; rec = rec_at f at h.size }) (drop (at + h.size) f)

-- A record of n bytes lies in the file, and breaks no rule.
pub record Good (f : List ℕ) (c : Context) (at n : ℕ) : Type 0 where
  pub held : Held f at n
  pub kept : fault_of c (rec_at f at n) ≡ None

-- It is that of the header, which is the file's own.
pub record GoodHeader (f : List ℕ) (c : Context) (at : ℕ) (h : Header) : Type 0 where
  pub good : Good f c at h.size
  pub read : h ≡ header_of f at

abbrev pub StepIn : List ℕ → Context → ℕ → Stepped → Type 0
StepIn f c at (ends v) = Unit {0}
StepIn f c at (gives h) = GoodHeader f c at h

pub record Steps (f : List ℕ) (c : Context) (at : ℕ) (r : Stepped) : Type 0 where
  pub steps : step c at (drop at f) ≡ step_meant f c at r
  pub inside : StepIn f c at r
