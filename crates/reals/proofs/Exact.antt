-- An exact answer is no NaN, since a NaN has no value: so a caller may take its bits. Assumes nothing.
use mathlib.Core.Bool.{not}
use mathlib.Core.Path.{◌≡◌}
use Prim.Native.Nat.{ℕ}
use lib.Dec.{T}
use lib.IntN.{ℤ}
use lib.Ieee.{Float, nan, inf, fin, is_nan}
use Rattle.cgx_spec.specs.declared.Real.TheVariants.{Exact}
use Rattle.cgx_spec.specs.Reals.{answer, value, Means}
use Rattle.cgx_spec.proofs.DoubleLaws.{exact-means}

pub exact-no-nan : (w : ℕ) (x : Float) → answer w ≡ Exact x → T (not (is_nan x))
unfolding is_nan
exact-no-nan w x e = go x (value w) (exact-means w x e)
  where
    go : (x : Float) (v : ℤ) → Means x v → T (not (is_nan x))
    go nan v h = absurd h
    go (inf s) v h = tt
    go (fin s n d) v h = tt
