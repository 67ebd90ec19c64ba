-- Stores one after another, and the parts of a line. Assumes nothing.
use Rattle.std.specs.Prelude.{Option}
use mathlib.Core.Path.{◌≡◌, sym, ap, ◌∙◌, subst}
use mathlib.Core.List.{List, [], ◌++◌}
use Prim.Native.Nat.{ℕ, ◌+◌, ◌≤◌}
use native.Mathlib.Nat.{add-zero}
use native.Mathlib.Omega.{arith}
use lib.ListN.{length, length-append}
use Rattle.cgx_spec.specs.declared.Kind.{Kind}
use Rattle.cgx_spec.specs.Verdicts.{Verdict}
use Rattle.buffers.specs.Put.{put}
use Rattle.buffers.proofs.Puts.{put-nil, put_then, put-length}
use Rattle.cgx_ask_listing.specs.Listing.{last_line, line_if, Stored}

-- ---- stores

-- one after another
pub both : {out mid after : List ℕ} {at to n : ℕ} {vs ws : List ℕ} → Stored out at vs mid to → Stored mid to ws after n → Stored out at (vs ++ ws) after n
both {out} {mid} {after} {at} {to} {n} {vs} {ws} a b =
    record {
      bytes = b.bytes ∙ ap (λ (l : List ℕ). put l to ws) a.bytes ∙ ap (λ (k : ℕ). put (put out at vs) k ws) a.ends ∙ put_then out at vs ws;
      ends = (let x = a.ends in let y = b.ends in omega (arith, length-append vs ws));
      inside = (let x = ap length a.bytes ∙ put-length out at vs in let y = b.inside in omega arith);
    }

-- the room that is left for the second
pub room-left : {out mid : List ℕ} {at to : ℕ} {vs : List ℕ} (ws : List ℕ) → Stored out at vs mid to → at + length (vs ++ ws) ≤ length out → to + length ws ≤ length mid
room-left {out} {mid} {at} {to} {vs} ws a h =
    let x = a.ends in
    let y = ap length a.bytes ∙ put-length out at vs in
    omega (arith, length-append vs ws)

-- and for the first
pub room-first : (vs ws : List ℕ) (at n : ℕ) → at + length (vs ++ ws) ≤ n → at + length vs ≤ n
room-first vs ws at n h = omega (arith, length-append vs ws)

-- the same bytes by another name
pub named-so : {out after : List ℕ} {at n : ℕ} {vs ws : List ℕ} → vs ≡ ws → Stored out at vs after n → Stored out at ws after n
named-so {out} {after} {at} {n} e s = subst (λ (l : List ℕ). Stored out at l after n) e s

-- ---- the line of the verdict

module _ (out : List ℕ) (at : ℕ) {v w : Verdict} (e : v ≡ w) where
  pub last-room : at + length (last_line v) ≤ length out → at + length (last_line w) ≤ length out
  last-room h = subst (λ (x : Verdict). at + length (last_line x) ≤ length out) e h

  pub last_stored : {after : List ℕ} {n : ℕ} → Stored out at (last_line w) after n → Stored out at (last_line v) after n
  last_stored {after} {n} s = subst (λ (x : Verdict). Stored out at (last_line x) after n) (sym e) s

-- ---- the line of a record of any type

-- an empty text is stored where nothing is
pub stored-none : (out : List ℕ) (at : ℕ) → at ≤ length out → Stored out at [] out at
stored-none out at h = record { bytes = sym (put-nil out at); ends = sym (add-zero at); inside = h }

module _ (out : List ℕ) (at offset : ℕ) {o p : Option Kind} (e : o ≡ p) where
  pub if-room : at + length (line_if o offset) ≤ length out → at + length (line_if p offset) ≤ length out
  if-room h = subst (λ (x : Option Kind). at + length (line_if x offset) ≤ length out) e h

  pub if-stored : {after : List ℕ} {n : ℕ} → Stored out at (line_if p offset) after n → Stored out at (line_if o offset) after n
  if-stored {after} {n} s = subst (λ (x : Option Kind). Stored out at (line_if x offset) after n) (sym e) s
