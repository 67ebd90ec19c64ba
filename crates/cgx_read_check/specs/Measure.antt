-- A verdict with the length of the normal form. Definitions only.
use Rattle.std.specs.Prelude.{true, List, ◌≡◌, ℕ, length, None, Option, Some, Result, Ok, Err}
use Rattle.cgx_spec.specs.declared.Kind.{Kind}
use Rattle.cgx_spec.specs.Verdicts.{Verdict}
use Rattle.cgx_spec.specs.Verdicts.{accepted, refused}
use Rattle.cgx_spec.specs.Fields.{join, lengths_fit}
use Rattle.cgx_spec.specs.Records.{Rec, bytes_of, pieces_of}
use Rattle.cgx_spec.specs.Files.{verdict_of, known, normals, normal_form}
use Rattle.cgx_spec.specs.declared.FileRefusal.{FileRefusal}

-- An accepted file with the length of its normal form; a refusal as it is.
abbrev pub measured : Verdict → ℕ → Result ℕ FileRefusal
measured (Ok _) n = Ok n
measured (Err r) n = Err r

unfoldable pub measure_of : List ℕ → Result ℕ FileRefusal
measure_of f = measured (verdict_of f) (length (normal_form f))

-- ---- some records of a file

-- A known record has fields of lengths that they may have.
abbrev pub FitsKind : Option Kind → Rec → Type 0
FitsKind None r = Unit {0}
FitsKind (Some k) r = lengths_fit (pieces_of k r) ≡ true

-- The bytes of the normal form of some records.
unfoldable pub normal_run : List Rec → List ℕ
normal_run rs = join bytes_of (normals (known rs))

-- The bytes that a record of this kind and size takes in the normal form.
abbrev pub taken : Option Kind → ℕ → ℕ
taken None n = 0
taken (Some k) n = n
