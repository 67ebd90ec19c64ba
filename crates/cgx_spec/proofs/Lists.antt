-- Laws on tests and on lists of bytes. Assumes nothing.
use mathlib.Core.Path.{◌≡◌, refl, sym, subst}
use mathlib.Core.Bool.{Bool, true, false, ◌&&◌, ◌||◌}
use mathlib.Core.List.{List, [], ◌∷◌, ◌++◌}
use Prim.Native.Nat.{ℕ, zero, suc, ◌+◌, ◌*◌, ◌/◌, ◌%◌, ◌≤◌, ◌<◌}
use native.Mathlib.Nat.{zero-lt-suc, div-add-mod'}
use native.Mathlib.Decide.{ℕ_discrete}
use native.Mathlib.Omega.{arith}
use lib.Dec.{T, leb, ltb, eqb, leb→le, le→leb, ltb→lt, nltb→le, eqb→eq, eqb_refl, not_T}
use lib.ListN.{take, drop}
use Rattle.cgx_spec.specs.Numbers.{Bytes}
use Rattle.cgx_spec.specs.Strings.{same}
use Rattle.cgx_spec.specs.Fields.{units, every}

-- ---- tests

pub T→true : {b : Bool} → T b → b ≡ true
T→true {b = true} t = refl
T→true {b = false} t = absurd t

pub true→T : {b : Bool} → b ≡ true → T b
true→T e = subst T (sym e) tt

pub ¬T→false : {b : Bool} → (T b → ⊥) → b ≡ false
¬T→false {b = true} t = absurd (t tt)
¬T→false {b = false} t = refl

pub false→¬T : {b : Bool} → b ≡ false → T b → ⊥
false→¬T e t = subst T e t

pub and_left : (a b : Bool) → T (a && b) → T a
and_left true b t = tt
and_left false b t = t

pub and_right : (a b : Bool) → T (a && b) → T b
and_right true b t = t
and_right false b t = absurd t

pub and_both : (a b : Bool) → T a → T b → T (a && b)
and_both true b s t = t
and_both false b s t = s

pub or_left_false : (a b : Bool) → (a || b) ≡ false → a ≡ false
or_left_false true b e = e
or_left_false false b e = refl

pub or_right_false : (a b : Bool) → (a || b) ≡ false → b ≡ false
or_right_false true b e = absurd (false→¬T e tt)
or_right_false false b e = e

pub eqb-false : (m n : ℕ) → (m ≡ n → ⊥) → eqb m n ≡ false
eqb-false m n h = ¬T→false (λ t. h (eqb→eq m n t))

pub eqb-false→ne : (m n : ℕ) → eqb m n ≡ false → m ≡ n → ⊥
eqb-false→ne m n e q = false→¬T e (subst (λ (k : ℕ). T (eqb m k)) q (eqb_refl m))

pub ltb-false : (m n : ℕ) → n ≤ m → ltb m n ≡ false
ltb-false m n h = ¬T→false (λ t. let l : m < n = ltb→lt m n t in omega arith)

pub ltb-false→le : (m n : ℕ) → ltb m n ≡ false → n ≤ m
ltb-false→le m n e = nltb→le m n (not_T (ltb m n) (false→¬T e))

pub eq→eqb : (m n : ℕ) → m ≡ n → T (eqb m n)
eq→eqb m n e = subst (λ (k : ℕ). T (eqb m k)) e (eqb_refl m)

-- tests that imply each other are equal
pub bool-ext : (a b : Bool) → (T a → T b) → (T b → T a) → a ≡ b
bool-ext true true f g = refl
bool-ext true false f g = absurd (f tt)
bool-ext false true f g = absurd (g tt)
bool-ext false false f g = refl

pub and-true : (a : Bool) → (a && true) ≡ a
and-true true = refl
and-true false = refl

pub and_assoc : (a b c : Bool) → (a && (b && c)) ≡ (a && b && c)
and_assoc true b c = refl
and_assoc false b c = refl

pub every-cons : {A : Type 0} (p : A → Bool) (x : A) (xs : List A) → T (every p (x ∷ xs)) → T (p x) × T (every p xs)
every-cons p x xs t = (and_left (p x) (every p xs) t, and_right (p x) (every p xs) t)

pub units-is : (u lo hi w : ℕ) → T (units u lo hi w) → (w ≡ w / u * u) × (lo ≤ w / u) × (w / u ≤ hi)
units-is u lo hi w h =
    let h₁ = and_left (eqb (w % u) 0 && leb lo (w / u)) (leb (w / u) hi) h in
    let r : w % u ≡ 0 = eqb→eq (w % u) 0 (and_left (eqb (w % u) 0) (leb lo (w / u)) h₁) in
    let q : w / u * u + w % u ≡ w = div-add-mod' w u in
    let e : w ≡ w / u * u = omega arith in
    (e, leb→le lo (w / u) (and_right (eqb (w % u) 0) (leb lo (w / u)) h₁), leb→le (w / u) hi (and_right (eqb (w % u) 0 && leb lo (w / u)) (leb (w / u) hi) h))

pub to-units : (u lo hi w : ℕ) → w % u ≡ 0 → lo ≤ w / u → w / u ≤ hi → T (units u lo hi w)
to-units u lo hi w e l h = and_both (eqb (w % u) 0 && leb lo (w / u)) (leb (w / u) hi) (and_both (eqb (w % u) 0) (leb lo (w / u)) (eq→eqb (w % u) 0 e) (le→leb lo (w / u) l)) (le→leb (w / u) hi h)

-- the test holds of each number below n
unfoldable pub all_below : ℕ → (ℕ → Bool) → Bool
all_below zero p = true
all_below (suc n) p = p n && all_below n p

pub at_each : (n : ℕ) (p : ℕ → Bool) → T (all_below n p) → (i : ℕ) → i < n → T (p i)
unfolding all_below
at_each zero p t i h = absurd (omega arith)
at_each (suc n) p t i h = go (ℕ_discrete i n) (at_each n p (and_right (p n) (all_below n p) t) i)
  where
    go : Dec (i ≡ n) → (i < n → T (p i)) → T (p i)
    go (yes e) r = subst (λ (m : ℕ). T (p m)) (sym e) (and_left (p n) (all_below n p) t)
    go (no ne) r = r (omega arith)

-- ---- bytes

pub Bytes-take : (n : ℕ) (l : List ℕ) → Bytes l → Bytes (take n l)
Bytes-take zero l h i = zero-lt-suc 255
Bytes-take (suc n) [] h i = zero-lt-suc 255
Bytes-take (suc n) (x ∷ l) h zero = h zero
Bytes-take (suc n) (x ∷ l) h (suc i) = Bytes-take n l (λ j. h (suc j)) i

pub Bytes-drop : (n : ℕ) (l : List ℕ) → Bytes l → Bytes (drop n l)
Bytes-drop zero l h i = h i
Bytes-drop (suc n) [] h i = zero-lt-suc 255
Bytes-drop (suc n) (x ∷ l) h i = Bytes-drop n l (λ j. h (suc j)) i

pub Bytes-append : (a b : List ℕ) → Bytes a → Bytes b → Bytes (a ++ b)
Bytes-append [] b ha hb i = hb i
Bytes-append (x ∷ a) b ha hb zero = ha zero
Bytes-append (x ∷ a) b ha hb (suc i) = Bytes-append a b (λ j. ha (suc j)) hb i

pub Bytes-cons : (x : ℕ) (l : List ℕ) → x < 256 → Bytes l → Bytes (x ∷ l)
Bytes-cons x l hx hl zero = hx
Bytes-cons x l hx hl (suc i) = hl i

pub Bytes-nil : Bytes []
Bytes-nil i = zero-lt-suc 255

pub same→eq : (a b : List ℕ) → T (same a b) → a ≡ b
unfolding same
same→eq [] [] t = refl
same→eq [] (b ∷ bs) t = absurd t
same→eq (c ∷ cs) [] t = absurd t
same→eq (c ∷ cs) (b ∷ bs) t =
    let p : c ≡ b = eqb→eq c b (and_left (eqb c b) (same cs bs) t) in
    let q : cs ≡ bs = same→eq cs bs (and_right (eqb c b) (same cs bs) t) in
    cc

pub same_refl : (b : List ℕ) → T (same b b)
unfolding same
same_refl [] = tt
same_refl (x ∷ b) = and_both (eqb x x) (same b b) (eqb_refl x) (same_refl b)
