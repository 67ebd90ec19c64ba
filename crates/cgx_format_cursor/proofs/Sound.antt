-- What is known of a cursor that is not forged: it lies in the file, after the first four bytes, and its run leaves room for one PROPERTY more. Assumes nothing.
use mathlib.Core.Path.{◌≡◌, sym, subst}
use mathlib.Core.Bool.{Bool, true, false, not, ◌&&◌}
use Prim.Native.Nat.{ℕ, zero, suc, ◌%◌, ◌≤◌}
use native.Mathlib.Omega.{arith}
use lib.Dec.{T, leb, eqb, leb→le}
use Rattle.cgx_spec.specs.Walking.{offset_up_to, run_up_to, forged}
use Rattle.cgx_spec.proofs.Lists.{true→T, and_left, and_right}
use Rattle.cgx_format_cursor.specs.declared.Cursor.{Cursor}
use Rattle.cgx_format_cursor.specs.Cursors.{offset_in, run_in, context_in, place_in}
use Rattle.cgx_format_cursor.proofs.Laws.{run_up}

pub record Sound (n : ℕ) (c : Cursor) : Type 0 where
  pub low : 4 ≤ c.at
  pub high : c.at ≤ n
  pub few : c.state.count ≤ c.at

run-few : (at first count : ℕ) → T (run_up_to at (run_in first count)) → count ≤ at
run-few at first zero t = omega arith
run-few at first (suc n) t = leb→le (suc n) at (and_right (leb first at) (leb (suc n) at) (subst T (sym (run_up at first (suc n) (λ e. omega arith))) t))

not-not : (b : Bool) → not b ≡ false → T b
not-not true e = tt
not-not false e = true→T (sym e)

pub not-forged : (n : ℕ) (c : Cursor) → forged n (place_in c) ≡ false → Sound n c
unfolding forged place_in context_in
not-forged n c e =
    let t₁ = leb 4 c.at in
    let t₂ = eqb (c.at % 2) 0 in
    let t₃ = leb c.at n in
    let t₄ = offset_up_to c.at (offset_in c.state.cell) in
    let t₅ = offset_up_to c.at (offset_in c.state.layer) in
    let t₆ = run_up_to c.at (run_in c.state.first c.state.count) in
    let t = not-not (t₁ && t₂ && t₃ && t₄ && t₅ && t₆) e in
    let u = and_left (t₁ && t₂ && t₃) t₄ (and_left (t₁ && t₂ && t₃ && t₄) t₅ (and_left (t₁ && t₂ && t₃ && t₄ && t₅) t₆ t)) in
    record {
      low = leb→le 4 c.at (and_left t₁ t₂ (and_left (t₁ && t₂) t₃ u));
      high = leb→le c.at n (and_right (t₁ && t₂) t₃ u);
      few = run-few c.at c.state.first c.state.count (and_right (t₁ && t₂ && t₃ && t₄ && t₅) t₆ t);
    }
