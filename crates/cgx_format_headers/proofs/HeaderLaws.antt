-- The laws of a header. Assumes nothing.
use Rattle.std.specs.Prelude.{Option, Result, Ok, Err}
use mathlib.Core.Path.{◌≡◌, refl, sym, ap, ◌∙◌}
use mathlib.Core.List.{List, [], ◌∷◌}
use Prim.Native.Nat.{ℕ, ◌+◌, ◌≤◌}
use native.Mathlib.Omega.{arith}
use lib.ListN.{length, get_or, drop, take}
use Rattle.cgx_spec.specs.declared.Kind.{Kind}
use Rattle.cgx_spec.specs.Numbers.{number}
use Rattle.cgx_spec.specs.Walking.{size_at}
use Rattle.cgx_spec.specs.declared.UnknownType.{UnknownType}
use Rattle.cgx_spec.specs.Kinds.{kind_of, Converts}
use Rattle.std.specs.Result.{result_ok}
use Rattle.numbers.proofs.Parts.{part}
use Rattle.cgx_format_headers.specs.declared.Header.{Header}
use Rattle.cgx_format_headers.specs.Headers.{header_of}

-- ---- the kind that a type byte is converted to

pub converted : (t : ℕ) (r : Result Kind UnknownType) → Converts t r → result_ok r ≡ kind_of t
converted t (Ok k) e = sym e
converted t (Err u) e = sym e.0

-- ---- the parts of a header that was read

module _ (f : List ℕ) (at : ℕ) {h : Header} (e : h ≡ header_of f at) where
  pub size-says : h.size ≡ size_at f at
  unfolding header_of
  size-says = ap (λ (x : Header). x.size) e

  pub kind-says : h.kind ≡ kind_of (get_or f (at + 2) 0)
  unfolding header_of
  kind-says = ap (λ (x : Header). x.kind) e

  pub flags-say : h.flags ≡ get_or f (at + 3) 0
  unfolding header_of
  flags-say = ap (λ (x : Header). x.flags) e

-- the size, by its two bytes
size_is : (f : List ℕ) (at : ℕ) {n : ℕ} → at + 2 ≤ length f → n ≡ number (take 2 (drop at f)) → n ≡ size_at f at
size_is f at h e =
    let two : number (get_or f at 0 ∷ get_or f (at + 1) 0 ∷ []) ≡ size_at f at = omega arith in
    e ∙ ap number (sym (part f at 1 h)) ∙ two

-- ---- and one that is made of parts

pub header_made : (f : List ℕ) (at : ℕ) {n : ℕ} {t : Option Kind} → at + 4 ≤ length f → n ≡ number (take 2 (drop at f)) → t ≡ kind_of (get_or f (at + 2) 0) → record { size = n; kind = t; flags = get_or f (at + 3) 0 } ≡ header_of f at
unfolding header_of
header_made f at {n} {t} h e k =
    let s = size_is f at (omega arith) e in
    λ i. record { size = s i; kind = k i; flags = get_or f (at + 3) 0 }
