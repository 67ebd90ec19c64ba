-- `cgx_read_lists::text_inside` is right: the length is held to what is left after the offset, so that no sum is made that might not fit. Assumes nothing.
use native.Mathlib.Omega.{arith}
use lib.Dec.{leb→le, le→leb}
use lib.ListN.{length}
use Prim.Native.Nat.{◌+◌, ◌-◌, ◌≤◌}
use lib.Dec.{leb}
use Rattle.cgx_spec.proofs.Lists.{bool-ext}
use Rattle.cgx_read_lists.specs.Lists.{within}
use Rattle.cgx_read_lists.proofs.text_inside.Goals as goal

pub returns-then-s-f : goal.returns-then-s-f
unfolding within
returns-then-s-f c = let s = c.args in
    let n = length s.f.now in
    let l : s.s.at ≤ n = c.if-s-f.true in
    bool-ext (leb s.s.len (n - s.s.at)) (leb (s.s.at + s.s.len) n)
    (λ t. le→leb (s.s.at + s.s.len) n (omega (arith, leb→le s.s.len (n - s.s.at) t)))
    (λ t. le→leb s.s.len (n - s.s.at) (omega (arith, leb→le (s.s.at + s.s.len) n t)))

pub returns-else-s-f : goal.returns-else-s-f
unfolding within
returns-else-s-f c = let s = c.args in
    let n = length s.f.now in
    bool-ext (leb s.s.at n) (leb (s.s.at + s.s.len) n)
    (λ t. absurd (omega (arith, leb→le s.s.at n t)))
    (λ t. le→leb s.s.at n (omega (arith, leb→le (s.s.at + s.s.len) n t)))
