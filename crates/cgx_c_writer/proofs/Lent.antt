-- What is left in a caller's memory, by the answer. Assumes nothing.
use Rattle.std.specs.Prelude.{Option, None, Ok, Err}
use mathlib.Core.Path.{◌≡◌, refl, ap}
use mathlib.Core.Bool.{Bool, true, false}
use mathlib.Core.List.{List}
use Prim.Native.Nat.{ℕ}
use native.Mathlib.Omega.{arith}
use Rattle.cgx_c_places.specs.Words.{told_at}
use Rattle.cgx_write_given.specs.Writing.{Answer, is_taken}
use Rattle.cgx_c_writer.specs.Lent.{words_after, place_named, offset_told}

pub refused : (w : List ℕ) (a : Answer) → is_taken a ≡ false → words_after w a ≡ w
refused w (Ok v) e = absurd (let z : ◌≡◌ {A = ℕ} 0 1 = cc in omega arith)
refused w (Err r) e = refl

pub untold : (at : ℕ) (a : Answer) → place_named a ≡ None → offset_told a at ≡ at
untold at (Ok v) e = refl
untold at (Err r) e = ap (λ (o : Option ℕ). told_at o at) e
