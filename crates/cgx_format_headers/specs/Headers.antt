-- A record's first four bytes as a header. Definitions only.
use Rattle.std.specs.Prelude.{List, ◌≡◌, ℕ, zero, suc, ◌+◌, ◌<◌, drop, get_or, Err, None, Ok, Option, Result, Some}
use Rattle.cgx_spec.specs.declared.Kind.{Kind}
use Rattle.cgx_spec.specs.declared.FileRefusal.{FileRefusal}
use Rattle.cgx_spec.specs.Verdicts.{Verdict, accepted, refused}
use Rattle.cgx_spec.specs.Kinds.{kind_of}
use Rattle.cgx_spec.specs.Files.{Cut, bad, found, cut}
use Rattle.cgx_spec.specs.Walking.{size_at, rec_at, Held}
use Rattle.cgx_format_headers.specs.declared.Header.{Header}

-- What is said of the first four bytes of a file, by the number of `opening`: a refusal names offset 0.
abbrev pub opened : ℕ → Verdict
opened zero = accepted
opened (suc n) = refused (suc n) 0

unfoldable pub header_of : List ℕ → ℕ → Header
header_of f at = record { size = size_at f at; kind = kind_of (get_or f (at + 2) 0); flags = get_or f (at + 3) 0 }

-- ---- what is answered of the bytes at an offset

-- The refusal, or the record of the header's size and the bytes after it.
unfoldable pub cut_meant : List ℕ → ℕ → Result Header FileRefusal → Cut
cut_meant f at (Err r) = bad r.number
cut_meant f at (Ok h) = found (rec_at f at h.size) (drop (at + h.size) f)

-- A header that is answered is the file's own, and its record lies in the file.
pub record HeaderAt (f : List ℕ) (at : ℕ) (h : Header) : Type 0 where
  pub held : Held f at h.size
  pub read : h ≡ header_of f at

abbrev pub HeadIn : List ℕ → ℕ → Result Header FileRefusal → Type 0
HeadIn f at (Err r) = (r.number < 6) × (r.at ≡ at)
HeadIn f at (Ok h) = HeaderAt f at h

pub record Heads (f : List ℕ) (at : ℕ) (r : Result Header FileRefusal) : Type 0 where
  pub cuts : cut (drop at f) ≡ cut_meant f at r
  pub inside : HeadIn f at r
