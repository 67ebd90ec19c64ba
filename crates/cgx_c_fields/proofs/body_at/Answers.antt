-- The record without its header.
use mathlib.Core.Path.{◌≡◌, ap}
use Prim.Native.Nat.{ℕ, ◌+◌, ◌-◌}
use native.Mathlib.Omega.{arith}
use lib.ListN.{take, drop}
use Rattle.cgx_spec.specs.Walking.{rec_at}
use Rattle.cgx_c_fields.proofs.body_at.Goals as goal

pub returns-clause-bytes : goal.returns-clause-bytes
unfolding rec_at
returns-clause-bytes c = let a = c.args in
    let q : a.r.at + a.r.size - (a.r.at + 4) ≡ a.r.size - 4 = omega arith in
    ap (λ (n : ℕ). take n (drop (a.r.at + 4) a.f.now)) q
