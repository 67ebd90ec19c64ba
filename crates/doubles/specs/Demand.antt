-- What is proved of the real that is made of a double's bits b: it is read as that very double, and where none is answered no real is. `of_bits binary64 b` is
-- the double with the bits b, every NaN's bits being the one `nan`. Statements only.
use Rattle.std.specs.Prelude.{◌≡◌, ℕ, ◌^◌, ◌<◌, Float, Some, None}
use Rattle.std.specs.Float.{binary64}
use Rattle.std.specs.Float.Ieee.{of_bits, to_bits}
use Rattle.cgx_spec.specs.declared.Real.TheVariants.{Exact}
use Rattle.cgx_spec.specs.Reals.{IsNormal, normal, answer}
use Rattle.doubles.specs.Doubles.{real_from}

pub record FromDoubleDemand : Type 0 where
  -- Where a real is answered, it is read as that very double,
  pub sound : (b w : ℕ) → real_from b ≡ Some w → answer w ≡ Exact (of_bits binary64 b)
  -- it is the normal one, and has 64 bits.
  pub normal-is : (b w : ℕ) → real_from b ≡ Some w → IsNormal w × (w < 2 ^ 64)
  -- Where none is answered, no real at all is read as that double,
  pub complete : (b : ℕ) → real_from b ≡ None → (w : ℕ) → answer w ≡ Exact (of_bits binary64 b) → ⊥
  -- and where no real is read as it, none is answered.
  pub empty : (b : ℕ) → ((w : ℕ) → answer w ≡ Exact (of_bits binary64 b) → ⊥) → real_from b ≡ None
  -- So the double that an exact real is read as gives back the normal real of its value.
  pub back : (w : ℕ) (x : Float) → answer w ≡ Exact x → real_from (to_bits binary64 x) ≡ Some (normal w)
