-- What the normal-form maker answers, and what the lent output then holds. Definitions only.
use Rattle.std.specs.Prelude.{Bool, cond, List, ◌++◌, ℕ, leb, length, drop, None, Some, Ok, Err, Option, Result}
use Rattle.cgx_spec.specs.declared.Refusal.{Refusal}
use Rattle.cgx_spec.specs.Verdicts.{Verdict, of_file}
use Rattle.cgx_spec.specs.Verdicts.{accepted, refused}
use Rattle.cgx_spec.specs.Files.{verdict_of, normal_form}

-- The length of what was made, or why it was not.
abbrev pub NormalAnswer : Type 0
NormalAnswer = Result ℕ Refusal

abbrev pub of_length : ℕ → NormalAnswer
of_length n = Ok n

abbrev pub refused_with : ℕ → Option ℕ → NormalAnswer
refused_with n at = Err (record { number = n; at = at })

-- ---- the maker

-- There is room for the normal form.
abbrev pub room_for : List ℕ → ℕ → Bool
room_for f room = leb (length (normal_form f)) room

-- "The file's refusal comes first, then 14."
abbrev pub made : Verdict → List ℕ → ℕ → NormalAnswer
made (Err r) f room = Err (of_file r)
made (Ok _) f room = cond (room_for f room) (of_length (length (normal_form f))) (refused_with 14 None)

unfoldable pub normal_answer_of : List ℕ → ℕ → NormalAnswer
normal_answer_of f room = made (verdict_of f) f room

-- "The maker writes this from the beginning of the lent output. .. Bytes of the lent output beyond it are untouched." On a refusal all are.
abbrev pub left : Verdict → List ℕ → List ℕ → List ℕ
left (Err r) f out = out
left (Ok _) f out = cond (room_for f (length out)) (normal_form f ++ drop (length (normal_form f)) out) out

unfoldable pub output_after : List ℕ → List ℕ → List ℕ
output_after f out = left (verdict_of f) f out
