-- Two's complement as std's methods have it and as the format's words do: one law for every width, each way. Assumes nothing.
use mathlib.Core.Path.{◌≡◌, refl, sym, ap, ◌∙◌}
use mathlib.Core.Bool.{Bool, true, false}
use Prim.Native.Nat.{ℕ, ◌*◌, ◌^◌, ◌<◌}
use native.Mathlib.Omega.{arith}
use borrow.Author.Tests.{ltb-true, ltb-false}
use lib.Dec.{ltb}
use lib.IntN.{ℤ, pos, negsuc}
use lib.Signed.{mag}
use mir.Syntax.{Width}
use mir.Val.{to_z, of_z, hbits}
use mir.ValLaws.{to_z-of_z, pow-bits}
use Rattle.cgx_spec.specs.Numbers.{twos, untwos}
use Rattle.cgx_spec.proofs.NumberLaws.{twos-low, twos-high}

-- What a local of a signed type holds, read back, is the number.
pub back : (w : Width) {z : ℤ} → mag z < 2 ^ hbits w → to_z w (of_z w z) ≡ z
back w {z} h = to_z-of_z w z (record { sfits = h })

-- from the bits to the number, `cast_signed`
pub signed_is : (w : Width) (n : ℕ) → n < 2 * 2 ^ hbits w → to_z w n ≡ twos (2 ^ hbits w) n
signed_is w n h = by (ltb n (2 ^ hbits w)) refl
  where
    by : (t : Bool) → ltb n (2 ^ hbits w) ≡ t → to_z w n ≡ twos (2 ^ hbits w) n
    by true e = rw e (sym (twos-low (2 ^ hbits w) n (ltb-true n (2 ^ hbits w) e)))
    by false e = rw e (ap negsuc (omega (arith, pow-bits w)) ∙ sym (twos-high (2 ^ hbits w) n (ltb-false n (2 ^ hbits w) e) h))

-- from the number to its bits, `cast_unsigned`
bits_are : (w : Width) (z : ℤ) → of_z w z ≡ untwos (2 ^ hbits w) z
unfolding untwos
bits_are w (pos n) = refl
bits_are w (negsuc n) = omega (arith, pow-bits w)

-- the same of the number that a local holds
pub unsigned_is : (w : Width) (z : ℤ) → mag z < 2 ^ hbits w → of_z w (to_z w (of_z w z)) ≡ untwos (2 ^ hbits w) z
unsigned_is w z h = ap (of_z w) (back w {z = z} h) ∙ bits_are w z
