-- The fields that an SREF call stores lie as its layout has them. Assumes nothing.
use mathlib.Core.Path.{◌≡◌, refl, ap, ◌∙◌}
use mathlib.Core.Bool.{Bool, true, false, cond}
use mathlib.Core.List.{List, [], ◌++◌}
use Prim.Native.Nat.{ℕ, ◌+◌, ◌*◌, ◌/◌}
use native.Mathlib.Omega.{arith}
use lib.ListN.{length, length-append}
use Rattle.cgx_spec.specs.Numbers.{long_bytes}
use Rattle.cgx_spec.specs.Strings.{padded}
use Rattle.cgx_spec.specs.Kinds.{angle, magnif, array}
use Rattle.cgx_spec.specs.Records.{size}
use Rattle.cgx_spec.proofs.RealLaws.{normal_real-length}
use Rattle.buffers.specs.Put.{longs_bytes}
use Rattle.buffers.proofs.Padding.{length-padded}
use Rattle.cgx_format_kinds.specs.declared.Point.{Point}
use Rattle.cgx_format_sref.specs.Layouts.{sref_layout}
use Rattle.cgx_format_kinds.specs.declared.Grid.{Grid}
use Rattle.cgx_write_given.specs.Given.{long, point, if_set, stored, written, given_sref}
use Rattle.cgx_write_given.specs.Srefs.{real_if, grid_if, sref_size}

-- ---- where the next field begins

pub after-real : (b : Bool) (r : List ℕ) (o : ℕ) → o + length (real_if b r) ≡ cond b (o + 8) o
unfolding stored
after-real true r o = ap (λ (k : ℕ). o + k) (normal_real-length r)
after-real false r o = omega arith

pub after-grid : (b : Bool) (g : Grid) (o : ℕ) → o + length (grid_if b g) ≡ cond b (o + 24) o
unfolding stored longs_bytes long_bytes
after-grid true g o = refl
after-grid false g o = omega arith

-- ---- the size

lengths : (x y a m c r s u n : List ℕ) (second third last : ℕ) → length x ≡ 4 → length y ≡ 4 → 12 + length a ≡ second → second + length m ≡ third → third + length (c ++ (r ++ (s ++ u))) ≡ last
    → last + length n ≡ 4 + length (x ++ (y ++ (a ++ (m ++ (c ++ (r ++ (s ++ (u ++ (n ++ [])))))))))
lengths x y a m c r s u n second third last ex ey ea em eg =
    let q = simp length-append at eg in
    simp length-append (omega arith)

module _ (fl : ℕ) (p : Point) (turn scale : List ℕ) (g : Grid) (t : List ℕ) where
  pub sref-size : sref_size fl (length t) ≡ size (written (given_sref fl p turn scale g t))
  unfolding sref_size written given_sref stored longs_bytes long_bytes
  sref-size =
      let n : 2 + length t / 2 * 2 ≡ length (padded t) = omega (arith, length-padded t) in
      let l = sref_layout fl in
      ap (λ (k : ℕ). l.name + k) n
      ∙ lengths (stored (long p.x)) (stored (long p.y)) (real_if (angle fl) turn) (real_if (magnif fl) scale) (stored (if_set (array fl) (long g.cols))) (stored (if_set (array fl) (long g.rows))) (stored (if_set (array fl) (point g.across))) (stored (if_set (array fl) (point g.up))) (padded t)
      l.magnif l.array l.name refl refl (after-real (angle fl) turn 12) (after-real (magnif fl) scale l.magnif) (after-grid (array fl) g l.array)
