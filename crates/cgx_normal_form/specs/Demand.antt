-- Demand 3 of the code's own answers: `check` answers `verdict_of`, and `normal_form` answers `normal_answer_of` and leaves `output_after` in its output. Statements only.
use Rattle.std.specs.Prelude.{◌≡◌, ◌↔◌, ◌⊎◌, List, ℕ, ◌≤◌, ◌<◌, length, take, drop, None, Some}
use Rattle.cgx_spec.specs.Verdicts.{accepted, refused}
use Rattle.cgx_spec.specs.Numbers.{Bytes}
use Rattle.cgx_spec.specs.Files.{verdict_of, SameMeaning, normal_form}
use Rattle.cgx_spec.specs.Written.{AddedTo}
use Rattle.cgx_normal_form.specs.NormalAnswer.{of_length, refused_with, normal_answer_of, output_after}

-- What the maker has written of the file f, where it answers n.
abbrev pub wrote : List ℕ → List ℕ → ℕ → List ℕ
wrote f out n = take n (output_after f out)

pub record MakerDemands : Type 0 where
  -- A file that is refused is refused so by the maker, and no byte of the output changes.
  pub refuses : (f out : List ℕ) (n p : ℕ) → verdict_of f ≡ refused n p → (normal_answer_of f (length out) ≡ refused_with n (Some p)) × (output_after f out ≡ out)
  -- An accepted file is made, or refused with 14 for its one cause, with no byte changed.
  pub makes : (f out : List ℕ) → verdict_of f ≡ accepted → (normal_answer_of f (length out) ≡ of_length (length (normal_form f))) ⊎ ((normal_answer_of f (length out) ≡ refused_with 14 None) × (length out < length (normal_form f)) × (output_after f out ≡ out))
  -- "The maker writes this from the beginning of the lent output", whatever that held before: of an accepted file, with room enough, it answers the length of the normal form, and so many first bytes of the output are it.
  pub writes : (f out : List ℕ) → verdict_of f ≡ accepted → length (normal_form f) ≤ length out → let n = length (normal_form f) in (normal_answer_of f (length out) ≡ of_length n) × (wrote f out n ≡ normal_form f)
  -- Bytes of the output beyond the normal form are untouched.
  pub beyond : (f out : List ℕ) (n : ℕ) → normal_answer_of f (length out) ≡ of_length n → drop n (output_after f out) ≡ drop n out
  -- What is written is accepted, and of the same meaning.
  pub form-accepted : (f out : List ℕ) (n : ℕ) → Bytes f → normal_answer_of f (length out) ≡ of_length n → verdict_of (wrote f out n) ≡ accepted
  pub form-means : (f out : List ℕ) (n : ℕ) → Bytes f → normal_answer_of f (length out) ≡ of_length n → SameMeaning (wrote f out n) f
  -- Two files that are made mean the same exactly when what is written of them is equal byte for byte.
  pub form-unique : (f g out out' : List ℕ) (m n : ℕ) → Bytes f → Bytes g → normal_answer_of f (length out) ≡ of_length m → normal_answer_of g (length out') ≡ of_length n → SameMeaning f g ↔ (wrote f out m ≡ wrote g out' n)
  -- Made of what was written, it is the same again.
  pub form-again : (f out out' : List ℕ) (n : ℕ) → Bytes f → normal_answer_of f (length out) ≡ of_length n → n ≤ length out' → let g = wrote f out n in (normal_answer_of g (length out') ≡ of_length n) × (wrote g out' n ≡ g)
  -- Unknown records added to an accepted file change neither acceptance nor what is made.
  pub form-added : (f g out : List ℕ) → Bytes f → verdict_of f ≡ accepted → AddedTo f g → (verdict_of g ≡ accepted) × (normal_answer_of g (length out) ≡ normal_answer_of f (length out)) × (output_after g out ≡ output_after f out)
