-- Rule 6: by what a kind needs and the context, and need by need and by looking back. Assumes nothing.
use Rattle.std.specs.Prelude.{None, Option, Some}
use mathlib.Core.Path.{◌≡◌, refl, sym, ap₂}
use mathlib.Core.Logic.{◌↔◌}
use mathlib.Core.Bool.{Bool, true, false, not, ◌||◌}
use mathlib.Core.List.{List, [], ◌∷◌}
use Prim.Native.Nat.{ℕ, zero, suc, ◌≤◌, ◌<◌}
use native.Mathlib.Omega.{arith}
use borrow.Author.Tests.{ne_eqb}
use Rattle.cgx_spec.specs.declared.Kind.{Kind}
use Rattle.cgx_spec.specs.declared.Kind.TheVariants.{Library, Struct, Cprpty, Property, Layer, Box, Poly, Wire, Text, Sref, Endlib}
use Rattle.cgx_spec.specs.declared.Context.{Context}
use Rattle.cgx_spec.specs.declared.Need.{Need}
use Rattle.cgx_spec.specs.declared.Need.TheVariants.{LibraryBefore, NoLibraryBefore, OpenCell, LayerInForce, NoneAwaiting, OnlyCprpty}
use Rattle.cgx_spec.specs.Fields.{every, All}
use Rattle.cgx_spec.specs.Kinds.{kind_of}
use Rattle.cgx_spec.specs.Order.{present, awaiting, met, allowed}
use Rattle.cgx_spec.specs.Restated.{type_byte, RecordBefore, library_before, properties_before, run_before, look_back}
use Rattle.cgx_spec.specs.Checks.{one_of, asks, Met, Kept, needs}
use Rattle.cgx_spec.proofs.Demand3.{unknown-kind}
use Rattle.cgx_spec.proofs.Firsts.{clash, iff-by, each-iff}

-- ---- types

-- a type is that of a kind, or unknown
pub by-type : (P : ℕ → Type 0) → ((k : Kind) → P (type_byte k)) → ((t : ℕ) → 11 ≤ t → P t) → (t : ℕ) → P t
unfolding type_byte
by-type P f g zero = f Library
by-type P f g (suc zero) = f Struct
by-type P f g (suc (suc zero)) = f Cprpty
by-type P f g (suc (suc (suc zero))) = f Property
by-type P f g (suc (suc (suc (suc zero)))) = f Layer
by-type P f g (suc (suc (suc (suc (suc zero))))) = f Box
by-type P f g (suc (suc (suc (suc (suc (suc zero)))))) = f Poly
by-type P f g (suc (suc (suc (suc (suc (suc (suc zero))))))) = f Wire
by-type P f g (suc (suc (suc (suc (suc (suc (suc (suc zero)))))))) = f Text
by-type P f g (suc (suc (suc (suc (suc (suc (suc (suc (suc zero))))))))) = f Sref
by-type P f g (suc (suc (suc (suc (suc (suc (suc (suc (suc (suc zero)))))))))) = f Endlib
by-type P f g (suc (suc (suc (suc (suc (suc (suc (suc (suc (suc (suc t))))))))))) = g (suc (suc (suc (suc (suc (suc (suc (suc (suc (suc (suc t))))))))))) (omega arith)

pub type-below : (k : Kind) → type_byte k < 11
unfolding type_byte
type-below Library = omega arith
type-below Struct = omega arith
type-below Cprpty = omega arith
type-below Property = omega arith
type-below Layer = omega arith
type-below Box = omega arith
type-below Poly = omega arith
type-below Wire = omega arith
type-below Text = omega arith
type-below Sref = omega arith
type-below Endlib = omega arith

-- an unknown type is none of these
not-one : (ks : List Kind) (t : ℕ) → 11 ≤ t → one_of ks t ≡ false
not-one [] t h = refl
not-one (k ∷ ks) t h = ap₂ ◌||◌ (ne_eqb (type_byte k) t (λ e. let b = type-below k in omega arith)) (not-one ks t h)

-- ---- the needs of a kind are those of all that it has

abbrev kept : Context → ℕ → Need → Bool
kept c t n = not (asks n t) || met c n

by_kind : (c : Context) (k : Kind) → allowed c (kind_of (type_byte k)) ≡ every (kept c (type_byte k)) needs
unfolding allowed kind_of type_byte asks
by_kind c Library = refl
by_kind c Struct = refl
by_kind c Cprpty = refl
by_kind c Property = refl
by_kind c Layer = refl
by_kind c Box = refl
by_kind c Poly = refl
by_kind c Wire = refl
by_kind c Text = refl
by_kind c Sref = refl
by_kind c Endlib = refl

of-unknown : (c : Context) (t : ℕ) → 11 ≤ t → allowed c (kind_of t) ≡ every (kept c t) needs
unfolding allowed asks
of-unknown c t h =
    rw (unknown-kind t h, not-one (Library ∷ []) t h, not-one (Cprpty ∷ Property ∷ Layer ∷ Box ∷ Poly ∷ Wire ∷ Text ∷ Sref ∷ []) t h, not-one (Box ∷ Poly ∷ Wire ∷ Text ∷ []) t h, not-one (Library ∷ Struct ∷ Cprpty ∷ Layer ∷ Endlib ∷ []) t h, not-one (Cprpty ∷ []) t h) refl

-- ---- needs by looking back

offset-iff : (o : Option ℕ) → (present o ≡ true) ↔ (o ≡ None → ⊥)
offset-iff None = ((λ e n. clash e refl), (λ n. absurd (n refl)))
offset-iff (Some p) = ((λ e n. let z : ◌≡◌ {A = ℕ} 0 1 = cc in omega arith), (λ n. refl))

not_iff : (b : Bool) → (not b ≡ true) ↔ (b ≡ false)
not_iff true = ((λ e. sym e), (λ e. sym e))
not_iff false = ((λ e. refl), (λ e. refl))

none-iff : (bs : List RecordBefore) → (not (awaiting (run_before bs)) ≡ true) ↔ (bs ≡ [])
unfolding run_before
none-iff [] = ((λ e. refl), (λ e. refl))
none-iff (b ∷ bs) = ((λ e. clash e refl), (λ e. absurd (let z : ◌≡◌ {A = ℕ} 0 1 = cc in omega arith)))

met-iff : (bs : List RecordBefore) (n : Need) → (met (look_back bs) n ≡ true) ↔ Met bs n
unfolding look_back
met-iff bs LibraryBefore = ((λ e. e), (λ e. e))
met-iff bs NoLibraryBefore = not_iff (library_before bs)
met-iff bs OpenCell = offset-iff _
met-iff bs LayerInForce = offset-iff _
met-iff bs NoneAwaiting = none-iff (properties_before bs)
met-iff bs OnlyCprpty = ((λ e. e), (λ e. e))

kept-iff : (bs : List RecordBefore) (t : ℕ) (n : Need) → (kept (look_back bs) t n ≡ true) ↔ Kept bs t n
kept-iff bs t n = go (asks n t)
  where
    go : (a : Bool) → ((not a || met (look_back bs) n) ≡ true) ↔ (a ≡ true → Met bs n)
    go true = ((λ e q. (met-iff bs n).0 e), (λ h. (met-iff bs n).1 (h refl)))
    go false = ((λ e q. clash q refl), (λ h. refl))

-- ---- rule 6

pub order-iff : (bs : List RecordBefore) (t : ℕ) → (allowed (look_back bs) (kind_of t) ≡ true) ↔ All (Kept bs t) needs
order-iff bs t =
    iff-by (by-type (λ (t : ℕ). allowed (look_back bs) (kind_of t) ≡ every (kept (look_back bs) t) needs) (by_kind (look_back bs)) (of-unknown (look_back bs)) t)
    (each-iff (kept (look_back bs) t) (Kept bs t) (kept-iff bs t) needs)
