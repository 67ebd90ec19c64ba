-- Statements and tests of each of a list, and the first that fails. Assumes nothing.
use mathlib.Core.Path.{◌≡◌, refl, sym, ap, ◌∙◌, subst}
use mathlib.Core.Logic.{◌↔◌}
use mathlib.Core.Bool.{Bool, true, false, ◌&&◌}
use mathlib.Core.List.{List, [], ◌∷◌, ◌++◌, head-eq_of_cons-eq, tail-eq_of_cons-eq}
use Prim.Native.Nat.{ℕ}
use native.Mathlib.Omega.{arith}
use Rattle.cgx_spec.specs.Fields.{every, All}
use Rattle.cgx_spec.specs.Checks.{FirstFails}

-- ---- tests

pub clash : {A : Type 0} {b : Bool} → b ≡ true → b ≡ false → A
clash p q = absurd (let z : ◌≡◌ {A = ℕ} 0 1 = cc in omega arith)

pub and-iff : (a b : Bool) → ((a && b) ≡ true) ↔ ((a ≡ true) × (b ≡ true))
and-iff true b = ((λ e. (refl, e)), (λ h. h.1))
and-iff false b = ((λ e. clash e refl), (λ h. h.0))

-- a test that is another
pub iff-by : {v w : Bool} {Q : Type 0} → v ≡ w → (w ≡ true) ↔ Q → (v ≡ true) ↔ Q
iff-by e i = ((λ h. i.0 (sym e ∙ h)), (λ q. e ∙ i.1 q))

module _ {A : Type 0} where
  -- a test that is a statement for each of a list, where something else is known of each
  pub every-iff : (p : A → Bool) (P K : A → Type 0) → ((x : A) → K x → (p x ≡ true) ↔ P x) → (l : List A) → All K l → (every p l ≡ true) ↔ All P l
  every-iff p P K iff [] k = ((λ e. tt), (λ u. refl))
  every-iff p P K iff (x ∷ l) k =
      let both = and-iff (p x) (every p l) in
      let one = iff x k.0 in
      let more = every-iff p P K iff l k.1 in
      ((λ e. (one.0 (both.0 e).0, more.0 (both.0 e).1)), (λ h. both.1 (one.1 h.0, more.1 h.1)))

  abbrev Nothing : A → Type 0
  Nothing x = Unit {0}

  nothing-more : (l : List A) → All Nothing l
  nothing-more [] = tt
  nothing-more (x ∷ l) = (tt, nothing-more l)

  pub each-iff : (p : A → Bool) (P : A → Type 0) → ((x : A) → (p x ≡ true) ↔ P x) → (l : List A) → (every p l ≡ true) ↔ All P l
  each-iff p P iff l = every-iff p P Nothing (λ x u. iff x) l (nothing-more l)

-- ---- the first that fails

all-at : {A : Type 0} (P : A → Type 0) (e : List A) (x : A) (l : List A) → All P (e ++ (x ∷ l)) → P x
all-at P [] x l h = h.0
all-at P (y ∷ e) x l h = all-at P e x l h.1

module _ {A : Type 0} {P : A → Type 0} where
  pub first-here : (x : A) (l : List A) → (P x → ⊥) → FirstFails P (x ∷ l) x
  first-here x l n = record { earlier = []; later = l; list = refl; hold = tt; fails = n }

  pub first-later : {x y : A} {l : List A} → P x → FirstFails P l y → FirstFails P (x ∷ l) y
  first-later {x} {y} {l} p h =
      record { earlier = x ∷ h.earlier; later = h.later; list = ap (λ (m : List A). x ∷ m) h.list; hold = (p, h.hold); fails = h.fails }

  pub never_both : {l : List A} {x : A} → All P l → FirstFails P l x → ⊥
  never_both {l} {x} a h = h.fails (all-at P h.earlier x h.later (subst (All P) h.list a))

module _ {A : Type 0} (P : A → Type 0) where
  same_first : (e e' : List A) (x y : A) (l l' : List A) → e ++ (x ∷ l) ≡ e' ++ (y ∷ l') → All P e → All P e' → (P x → ⊥) → (P y → ⊥) → x ≡ y
  same_first [] [] x y l l' q h h' n n' = head-eq_of_cons-eq q
  same_first [] (b ∷ e') x y l l' q h h' n n' = absurd (n (subst P (sym (head-eq_of_cons-eq q)) h'.0))
  same_first (a ∷ e) [] x y l l' q h h' n n' = absurd (n' (subst P (head-eq_of_cons-eq q) h.0))
  same_first (a ∷ e) (b ∷ e') x y l l' q h h' n n' = same_first e e' x y l l' (tail-eq_of_cons-eq q) h.1 h'.1 n n'

  pub one-first : {l : List A} {x y : A} → FirstFails P l x → FirstFails P l y → x ≡ y
  one-first {l} {x} {y} p q = same_first p.earlier q.earlier x y p.later q.later (sym p.list ∙ q.list) p.hold q.hold p.fails q.fails
