-- The bytes of the normal form of some records, and of a file. Assumes nothing.
use Rattle.std.specs.Prelude.{None, Option, Some}
use mathlib.Core.Path.{◌≡◌, refl, sym, ap, ◌∙◌}
use mathlib.Core.Bool.{Bool, true}
use mathlib.Core.List.{List, [], ◌∷◌, ◌++◌, append-nil}
use Prim.Native.Nat.{ℕ, ◌+◌, ◌≤◌}
use native.Mathlib.Omega.{arith}
use lib.ListN.{length, take, length-append}
use lib.Seq.{length-take-le}
use Rattle.cgx_spec.specs.declared.Kind.{Kind}
use Rattle.cgx_spec.specs.Numbers.{Bytes}
use Rattle.cgx_spec.specs.Fields.{join, lengths_fit}
use Rattle.cgx_spec.specs.Kinds.{kind_of, layout}
use Rattle.cgx_spec.specs.Records.{Rec, size, bytes_of, pieces_of, normal_of, broken, rules}
use Rattle.cgx_spec.specs.Files.{records_of, if_known, known, sequence, normals, normal_form}
use Rattle.cgx_spec.proofs.Lists.{true→T}
use Rattle.cgx_spec.proofs.Normal.{rules-kept}
use Rattle.cgx_spec.proofs.Pieces.{fit, length-normal_bytes}
use Rattle.cgx_read_check.specs.Measure.{FitsKind, normal_run, taken}

pub length-of : (r : Rec) → length (bytes_of r) ≡ size r
unfolding bytes_of
length-of r = omega arith

-- a record that breaks no rule has fields of lengths that they may have
pub fits-of : (s : Bool) (o : Option Kind) (r : Rec) → broken (rules s o r) ≡ None → FitsKind o r
fits-of s None r e = tt
fits-of s (Some k) r e = (rules-kept s k r e).0

-- ---- the normal form of some records

pub run-nil : normal_run [] ≡ []
unfolding normal_run known
run-nil = refl

pub run-cons : (r : Rec) (rs : List Rec) → normal_run (r ∷ rs) ≡ normal_run (r ∷ []) ++ normal_run rs
unfolding normal_run known
run-cons r rs = go (kind_of r.type)
  where
    go : (o : Option Kind) → join bytes_of (normals (if_known o r (known rs))) ≡ join bytes_of (normals (if_known o r [])) ++ join bytes_of (normals (known rs))
    go None = refl
    go (Some k) = ap (λ (l : List ℕ). l ++ join bytes_of (normals (known rs))) (sym (append-nil (bytes_of (normal_of k r))))

-- an unknown record has none, a known one as many bytes as it has
pub run-unknown : (r : Rec) → kind_of r.type ≡ None → normal_run (r ∷ []) ≡ []
unfolding normal_run known
run-unknown r e = ap (λ (o : Option Kind). join bytes_of (normals (if_known o r []))) e

pub run-known : (r : Rec) (k : Kind) → kind_of r.type ≡ Some k → normal_run (r ∷ []) ≡ bytes_of (normal_of k r)
unfolding normal_run known
run-known r k e = ap (λ (o : Option Kind). join bytes_of (normals (if_known o r []))) e ∙ append-nil (bytes_of (normal_of k r))

pub size-normal : (k : Kind) (r : Rec) → Bytes r.body → lengths_fit (pieces_of k r) ≡ true → size (normal_of k r) ≡ size r
unfolding normal_of pieces_of
size-normal k r b w = ap (λ (n : ℕ). 4 + n) (length-normal_bytes (layout k r.flags) r.body (fit (layout k r.flags) r.body b (true→T w)))

pub run_length : (r : Rec) → Bytes r.body → FitsKind (kind_of r.type) r → length (normal_run (r ∷ [])) ≡ taken (kind_of r.type) (size r)
run_length r b h = go (kind_of r.type) refl h
  where
    go : (o : Option Kind) → kind_of r.type ≡ o → FitsKind o r → length (normal_run (r ∷ [])) ≡ taken o (size r)
    go None e w = ap length (run-unknown r e)
    go (Some k) e w = ap length (run-known r k e) ∙ length-of (normal_of k r) ∙ size-normal k r b w

pub taken-le : (o : Option Kind) (n : ℕ) {w : ℕ} → w ≡ taken o n → w ≤ n
taken-le None n e = omega arith
taken-le (Some k) n e = omega arith

-- ---- a whole file

pub form-is : (f : List ℕ) → normal_form f ≡ take 4 f ++ normal_run (records_of f)
unfolding normal_form sequence normal_run
form-is f = refl

pub form-long : (f : List ℕ) → 4 ≤ length f → length (normal_form f) ≡ 4 + length (normal_run (records_of f))
form-long f h =
    ap length (form-is f) ∙ length-append (take 4 f) (normal_run (records_of f)) ∙ ap (λ (n : ℕ). n + length (normal_run (records_of f))) (length-take-le 4 f h)
