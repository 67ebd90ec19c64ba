-- The checks of a call: what the code computes is the call's answer, and from it follows that there is room. Assumes nothing.
use Rattle.std.specs.Prelude.{None, Option, Some, Ok, Err}
use Rattle.std.specs.Option.{option_or}
use Rattle.std.proofs.lemmas.Bool.{true≢false}
use Rattle.std.proofs.lemmas.Option.{none-some}
use mathlib.Core.Path.{◌≡◌, refl, sym, ap, ◌∙◌, subst}
use mathlib.Core.Bool.{Bool, true, false, not, ◌&&◌, cond}
use mathlib.Core.List.{[], ◌∷◌}
use Prim.Native.Nat.{ℕ, zero, suc, ◌+◌, ◌%◌, ◌≤◌}
use native.Mathlib.Omega.{arith}
use borrow.Author.Tests.{leb-true}
use lib.Dec.{T, leb, eqb, leb→le, eqb→eq}
use Rattle.cgx_spec.specs.declared.Kind.{Kind}
use Rattle.cgx_spec.specs.declared.Refusal.{Refusal}
use Rattle.cgx_spec.specs.Kinds.{good_flags}
use Rattle.cgx_spec.specs.Records.{rule, broken, size}
use Rattle.cgx_spec.specs.Walking.{offset_up_to, run_up_to, forged}
use Rattle.cgx_spec.proofs.Lists.{true→T, and_left, and_right}
use Rattle.cgx_format_cursor.specs.Cursors.{run_in, context_in, place_in}
use Rattle.cgx_format_cursor.proofs.Laws.{run_up}
use Rattle.cgx_write_given.specs.declared.Writer.{Writer}
use Rattle.cgx_write_given.specs.Given.{Given, enough_given, keeps_given, written}
use Rattle.cgx_write_given.specs.Writing.{offset_of, context_of, place_of, max_size, rules_of, checks, Answer, is_taken, named, answered, planned}
use Rattle.cgx_write_given.proofs.Records.{further, checks-are}
use Rattle.cgx_write_given.proofs.Unforged.{after_is}
use Rattle.cgx_write_plans.specs.Plans.{given_fault, may_follow, checked, moved_by, said, concluded}

-- ---- the order of the checks

in_order_lem : (b16 b6 b7 b8 b9 b10 b11 b12 b15 b14 : Bool)
    → cond b16 (Some 16) (further (broken (rule 6 b6 ∷ rule 7 b7 ∷ rule 8 b8 ∷ rule 9 b9 ∷ rule 10 b10 ∷ rule 11 b11 ∷ rule 12 b12 ∷ rule 15 b15 ∷ [])) 14 b14)
    ≡ cond b16 (Some 16) (cond b6 (option_or (broken (rule 7 b7 ∷ rule 8 b8 ∷ rule 9 b9 ∷ rule 10 b10 ∷ rule 11 b11 ∷ rule 12 b12 ∷ [])) (cond b15 (cond b14 None (Some 14)) (Some 15))) (Some 6))
unfolding broken
in_order_lem true b6 b7 b8 b9 b10 b11 b12 b15 b14 = refl
in_order_lem false false b7 b8 b9 b10 b11 b12 b15 b14 = refl
in_order_lem false true false b8 b9 b10 b11 b12 b15 b14 = refl
in_order_lem false true true false b9 b10 b11 b12 b15 b14 = refl
in_order_lem false true true true false b10 b11 b12 b15 b14 = refl
in_order_lem false true true true true false b11 b12 b15 b14 = refl
in_order_lem false true true true true true false b12 b15 b14 = refl
in_order_lem false true true true true true true false b15 b14 = refl
in_order_lem false true true true true true true true false b14 = refl
in_order_lem false true true true true true true true true false = refl
in_order_lem false true true true true true true true true true = refl

checked-is : (n : ℕ) (w : Writer) (g : Given) → checked n w g.kind (given_fault g) (size (written g)) ≡ broken (checks n w g)
unfolding checked given_fault rules_of
checked-is n w g =
    sym (checks-are n w g
    ∙ in_order_lem (forged n (place_of w)) (may_follow (context_of w) g.kind) (good_flags g.kind g.flags) (enough_given g) (keeps_given 9 g) (keeps_given 10 g) (keeps_given 11 g) (keeps_given 12 g) (leb (size (written g)) max_size) (leb (offset_of w + size (written g)) n))

concluded-is : (n : ℕ) (w : Writer) (g : Given) → concluded n w g.kind (given_fault g) (size (written g)) ≡ planned n w g
unfolding concluded planned said answered
concluded-is n w g = ap (said w g.kind (size (written g))) (checked-is n w g) ∙ one (broken (checks n w g))
  where
    one : (o : Option ℕ) → said w g.kind (size (written g)) o ≡ answered w g o
    one None = ap (λ (v : Writer). Ok v) (sym (after_is w g))
    one (Some m) = refl

-- what a plan computes
pub plan-is : (n : ℕ) (w : Writer) (g : Given) (r : Answer) (b : Option ℕ) (s : ℕ) → r ≡ concluded n w g.kind b s → b ≡ given_fault g → s ≡ size (written g) → r ≡ planned n w g
plan-is n w g r b s e f h =
    e ∙ ap (λ (x : Option ℕ). concluded n w g.kind x s) f ∙ ap (λ (x : ℕ). concluded n w g.kind (given_fault g) x) h ∙ concluded-is n w g

-- ---- what the code's tests come to

module _ (n : ℕ) (w : Writer) (k : Kind) (b : Option ℕ) (s : ℕ) where
  pub chk16 : forged n (place_of w) ≡ true → Some 16 ≡ checked n w k b s
  unfolding checked
  chk16 e = simp e

  pub chk6 : forged n (place_of w) ≡ false → may_follow (context_of w) k ≡ false → Some 6 ≡ checked n w k b s
  unfolding checked
  chk6 e f = simp (e, f)

  module _ (e : forged n (place_of w) ≡ false) (f : may_follow (context_of w) k ≡ true) where
    pub chk_b : (m : ℕ) → b ≡ Some m → Some m ≡ checked n w k b s
    unfolding checked
    chk_b m g = simp (e, f, g)

    pub chk15 : b ≡ None → leb s 65534 ≡ false → Some 15 ≡ checked n w k b s
    unfolding checked
    chk15 g h = simp (e, f, g, h)

    pub chk14 : b ≡ None → leb s 65534 ≡ true → leb (offset_of w + s) n ≡ false → Some 14 ≡ checked n w k b s
    unfolding checked
    chk14 g h i = simp (e, f, g, h, i)

    pub chk0 : b ≡ None → leb s 65534 ≡ true → leb (offset_of w + s) n ≡ true → None ≡ checked n w k b s
    unfolding checked
    chk0 g h i = simp (e, f, g, h, i)

pub follows : (e a : Bool) → e ≡ false → (not e && a) ≡ a
follows e a h = rw h

pub ended-not : (e a : Bool) → e ≡ true → (not e && a) ≡ false
ended-not e a h = rw h

-- what is said of it
pub says-no : (w : Writer) (k : Kind) (s m : ℕ) (r : Refusal) (o : Option ℕ) → Some m ≡ o → r ≡ record { number = m; at = named m (offset_of w) } → Err r ≡ said w k s o
unfolding said
says-no w k s m r o e q = ap (λ (x : Refusal). Err x) q ∙ ap (said w k s) e

pub says-yes : (w : Writer) (k : Kind) (s : ℕ) (v : Writer) (o : Option ℕ) → None ≡ o → v ≡ moved_by w k s → Ok v ≡ said w k s o
unfolding said
says-yes w k s v o e q = ap (λ (x : Writer). Ok x) q ∙ ap (said w k s) e

-- ---- a writer that is not forged, and room

pub record Sound (n : ℕ) (w : Writer) : Type 0 where
  pub low : 4 ≤ offset_of w
  pub even : offset_of w % 2 ≡ 0
  pub high : offset_of w ≤ n
  pub few : w.cursor.state.count ≤ offset_of w

run-few : (at first count : ℕ) → T (run_up_to at (run_in first count)) → count ≤ at
run-few at first zero t = omega arith
run-few at first (suc n) t = leb→le (suc n) at (and_right (leb first at) (leb (suc n) at) (subst T (sym (run_up at first (suc n) (λ e. omega arith))) t))

not-not : (b : Bool) → not b ≡ false → T b
not-not true e = tt
not-not false e = true→T (sym e)

pub not-forged : (n : ℕ) (w : Writer) → forged n (place_of w) ≡ false → Sound n w
unfolding forged place_in context_in
not-forged n w e =
    let p = place_of w in
    let t₁ = leb 4 p.at in
    let t₂ = eqb (p.at % 2) 0 in
    let t₃ = leb p.at n in
    let t₄ = offset_up_to p.at p.context.cell in
    let t₅ = offset_up_to p.at p.context.layer in
    let t₆ = run_up_to p.at p.context.run in
    let t = not-not (t₁ && t₂ && t₃ && t₄ && t₅ && t₆) e in
    let u = and_left (t₁ && t₂ && t₃) t₄ (and_left (t₁ && t₂ && t₃ && t₄) t₅ (and_left (t₁ && t₂ && t₃ && t₄ && t₅) t₆ t)) in
    record {
      low = leb→le 4 p.at (and_left t₁ t₂ (and_left (t₁ && t₂) t₃ u));
      even = eqb→eq (p.at % 2) 0 (and_right t₁ t₂ (and_left (t₁ && t₂) t₃ u));
      high = leb→le p.at n (and_right (t₁ && t₂) t₃ u);
      few = run-few p.at w.cursor.state.first w.cursor.state.count (and_right (t₁ && t₂ && t₃ && t₄ && t₅) t₆ t);
    }

-- what holds of a writer and a size that no check fails of
pub record Fits (n : ℕ) (w : Writer) (s : ℕ) : Type 0 where
  pub small : s ≤ 65534
  pub room : offset_of w + s ≤ n
  pub sound : Sound n w

pub checked-fits : (n : ℕ) (w : Writer) (k : Kind) (b : Option ℕ) (s : ℕ) → None ≡ checked n w k b s → Fits n w s
unfolding checked
checked-fits n w k b s e = one (forged n (place_of w)) (may_follow (context_of w) k) b (leb s 65534) (leb (offset_of w + s) n) refl refl refl e
  where
    one : (a c : Bool) (d : Option ℕ) (f g : Bool) → forged n (place_of w) ≡ a → leb s 65534 ≡ f → leb (offset_of w + s) n ≡ g → None ≡ cond a (Some 16) (cond c (option_or d (cond f (cond g None (Some 14)) (Some 15))) (Some 6)) → Fits n w s
    one true c d f g v y z e = absurd (none-some _ e)
    one false false d f g v y z e = absurd (none-some _ e)
    one false true (Some m) f g v y z e = absurd (none-some _ e)
    one false true None false g v y z e = absurd (none-some _ e)
    one false true None true false v y z e = absurd (none-some _ e)
    one false true None true true v y z e = record { small = leb-true s 65534 y; room = leb-true (offset_of w + s) n z; sound = not-forged n w v }

-- a plan that is taken leaves room
pub call_fits : (n : ℕ) (w : Writer) (g : Given) (v : Writer) (s : ℕ) → planned n w g ≡ Ok v → s ≡ size (written g) → Fits n w s
unfolding planned answered
call_fits n w g v s e q =
    subst (λ (x : ℕ). Fits n w x) (sym q) (checked-fits n w g.kind (given_fault g) (size (written g)) (sym (one (broken (checks n w g)) (ap is_taken e)) ∙ sym (checked-is n w g)))
  where
    one : (o : Option ℕ) → is_taken (answered w g o) ≡ true → o ≡ None
    one None h = refl
    one (Some m) h = absurd (true≢false (sym h))
