-- The definitions agree with 01 stated a second time (`Restated`): types, sizes, flags, strings, contexts, and the meaning of the k-th records.
use Rattle.std.specs.Prelude.{None, Option, Some, slice_get}
use mathlib.Core.Path.{◌≡◌, refl, sym, ap, ap₂, ◌∙◌, subst}
use mathlib.Core.Logic.{◌↔◌}
use mathlib.Core.Bool.{Bool, true, false, ◌&&◌, cond}
use mathlib.Core.List.{List, [], ◌∷◌, ◌++◌}
use Prim.Native.Nat.{ℕ, zero, suc, ◌+◌, ◌*◌, ◌%◌, ◌<◌}
use native.Mathlib.Numerals.{add-one}
use native.Mathlib.Omega.{arith}
use lib.Dec.{T, leb, eqb, eqb→eq, le→leb}
use lib.ListN.{length}
use Rattle.cgx_spec.specs.declared.Kind.{Kind}
use Rattle.cgx_spec.specs.declared.Kind.TheVariants.{Library, Struct, Cprpty, Property, Layer, Box, Poly, Wire, Text, Sref, Endlib}
use Rattle.cgx_spec.specs.declared.Run.{Run}
use Rattle.cgx_spec.specs.declared.Context.{Context}
use Rattle.cgx_spec.specs.Strings.{text_of, padded, same, good_string}
use Rattle.cgx_spec.specs.Kinds.{kind_of, type_for, orientation, text_flags, meant, good_flags, flags_of}
use Rattle.cgx_spec.specs.Order.{start, longer, next}
use Rattle.cgx_spec.specs.Records.{size, context_after}
use Rattle.cgx_spec.specs.Files.{Step, stop, go, step, walk, opening, opened, begin, walk_of}
use Rattle.cgx_spec.specs.Restated.{type_byte, highest_flags, Side, low, middle, high, side, Orientation, orientation_of, FlagsAlike, NoZero, zeros_after, IsString, RecordBefore, library_before, cell_before, layer_before, struct_before, properties_before, farthest, run_before, end_before, look_back}
use Rattle.cgx_spec.specs.Demands.{LooksBack, Agreement}
use Rattle.cgx_spec.proofs.Lists.{all_below, at_each, T→true, true→T, and_left, and_right, same→eq, same_refl}
use Rattle.cgx_spec.proofs.Demand3.{unknown-kind}
use Rattle.cgx_spec.proofs.Sizes.{sizes-agree}
use Rattle.cgx_spec.proofs.Steps.{StepAt, step-at}

-- ---- types

pub kind-for : (k : Kind) → kind_of (type_for k) ≡ Some k
unfolding kind_of
kind-for Library = refl
kind-for Struct = refl
kind-for Cprpty = refl
kind-for Property = refl
kind-for Layer = refl
kind-for Box = refl
kind-for Poly = refl
kind-for Wire = refl
kind-for Text = refl
kind-for Sref = refl
kind-for Endlib = refl

types-written : (k : Kind) → type_for k ≡ type_byte k
unfolding type_byte
types-written Library = refl
types-written Struct = refl
types-written Cprpty = refl
types-written Property = refl
types-written Layer = refl
types-written Box = refl
types-written Poly = refl
types-written Wire = refl
types-written Text = refl
types-written Sref = refl
types-written Endlib = refl

types : (k : Kind) → kind_of (type_byte k) ≡ Some k
types k = ap kind_of (sym (types-written k)) ∙ kind-for k

-- ---- flags

byte : (fl : ℕ) → fl < 256 → true ≡ leb fl 255
byte fl h = sym (T→true (le→leb fl 255 (omega arith)))

flags-allowed : (k : Kind) (fl : ℕ) → fl < 256 → good_flags k fl ≡ leb fl (highest_flags k)
unfolding highest_flags
flags-allowed Library fl h = byte fl h
flags-allowed Struct fl h = byte fl h
flags-allowed Cprpty fl h = byte fl h
flags-allowed Property fl h = byte fl h
flags-allowed Layer fl h = byte fl h
flags-allowed Box fl h = byte fl h
flags-allowed Poly fl h = byte fl h
flags-allowed Wire fl h = refl
flags-allowed Text fl h = byte fl h
flags-allowed Sref fl h = refl
flags-allowed Endlib fl h = byte fl h

side_number : Side → ℕ
side_number low = 0
side_number middle = 1
side_number high = 2

side_at : ℕ → Side
side_at zero = low
side_at (suc zero) = middle
side_at (suc (suc n)) = high

side_same : (s t : Side) → side_number s ≡ side_number t → s ≡ t
unfolding side_at side_number
side_same s t e = sym (back s) ∙ ap side_at e ∙ back t
  where
    back : (s : Side) → side_at (side_number s) ≡ s
    back low = refl
    back middle = refl
    back high = refl

truth : Bool → ℕ
truth false = 0
truth true = 1

truth-same : (a b : Bool) → truth a ≡ truth b → a ≡ b
unfolding truth
truth-same a b e = sym (back a) ∙ ap (eqb 1) e ∙ back b
  where
    back : (a : Bool) → eqb 1 (truth a) ≡ a
    back true = refl
    back false = refl

-- the parts of an orientation as numbers, so that one test over the 256 bytes compares orientations
parts : Orientation → List ℕ
parts o = o.turns ∷ truth o.mirror ∷ truth o.eighth ∷ side_number o.horizontal ∷ side_number o.vertical ∷ []

parts_same : (o p : Orientation) → parts o ≡ parts p → o ≡ p
unfolding parts
parts_same o p e =
    let a : o.turns ≡ p.turns = cc in
    let b : o.mirror ≡ p.mirror = truth-same o.mirror p.mirror (cc) in
    let c : o.eighth ≡ p.eighth = truth-same o.eighth p.eighth (cc) in
    let d : o.horizontal ≡ p.horizontal = side_same o.horizontal p.horizontal (cc) in
    let f : o.vertical ≡ p.vertical = side_same o.vertical p.vertical (cc) in
    λ i. record { turns = a i; mirror = b i; eighth = c i; horizontal = d i; vertical = f i }

-- a TEXT's flags and what is meant of them have one orientation, and an orientation's parts give what is meant
meant_by : List ℕ → ℕ
meant_by [] = 0
meant_by (t ∷ []) = 0
meant_by (t ∷ m ∷ []) = 0
meant_by (t ∷ m ∷ e ∷ []) = 0
meant_by (t ∷ m ∷ e ∷ h ∷ []) = 0
meant_by (t ∷ m ∷ e ∷ h ∷ v ∷ ps) = t + 4 * m + 8 * e + 16 * h + 64 * v

right : ℕ → Bool
right fl = same (parts (orientation_of (meant orientation fl))) (parts (orientation_of fl)) && eqb (meant orientation fl) (meant_by (parts (orientation_of fl)))

all_right : (fl : ℕ) → fl < 256 → T (right fl)
unfolding right all_below same text_flags parts meant_by orientation_of side side_number truth
all_right fl h = at_each 256 right tt fl h

oriented : (fl : ℕ) → fl < 256 → (orientation_of (meant orientation fl) ≡ orientation_of fl) × (meant orientation fl ≡ meant_by (parts (orientation_of fl)))
unfolding right
oriented fl h =
    let o = orientation_of (meant orientation fl) in
    let p = orientation_of fl in
    let a = same (parts o) (parts p) in
    let b = eqb (meant orientation fl) (meant_by (parts p)) in
    (parts_same o p (same→eq (parts o) (parts p) (and_left a b (all_right fl h))), eqb→eq (meant orientation fl) (meant_by (parts p)) (and_right a b (all_right fl h)))

flags-alike : (k : Kind) (x y : ℕ) → x < 256 → y < 256 → (flags_of k x ≡ flags_of k y) ↔ FlagsAlike k x y
flags-alike Library x y hx hy = (λ e. e, λ e. e)
flags-alike Struct x y hx hy = (λ e. tt, λ t. refl)
flags-alike Cprpty x y hx hy = (λ e. tt, λ t. refl)
flags-alike Property x y hx hy = (λ e. tt, λ t. refl)
flags-alike Layer x y hx hy = (λ e. tt, λ t. refl)
flags-alike Box x y hx hy = (λ e. tt, λ t. refl)
flags-alike Poly x y hx hy = (λ e. tt, λ t. refl)
flags-alike Wire x y hx hy = (λ e. e, λ e. e)
flags-alike Text x y hx hy = (
  (λ e. sym (oriented x hx).0 ∙ ap orientation_of e ∙ (oriented y hy).0),
  (λ e. (oriented x hx).1 ∙ ap (λ (o : Orientation). meant_by (parts o)) e ∙ sym (oriented y hy).1),
)
flags-alike Sref x y hx hy = (λ e. e, λ e. e)
flags-alike Endlib x y hx hy = (λ e. tt, λ t. refl)

-- ---- strings

padded-is : (t : List ℕ) → padded t ≡ t ++ zeros_after t
unfolding padded
padded-is [] = refl
padded-is (a ∷ []) = refl
padded-is (a ∷ b ∷ t) =
    let e : suc (suc (length t)) % 2 ≡ length t % 2 = omega arith in
    ap (λ (l : List ℕ). a ∷ b ∷ l) (padded-is t) ∙ ap (λ (n : ℕ). a ∷ b ∷ (t ++ cond (eqb n 1) (0 ∷ []) (0 ∷ 0 ∷ []))) (sym e)

text-no-zero : (b : List ℕ) → NoZero (text_of b)
unfolding text_of
text-no-zero [] i h e = omega arith
text-no-zero (zero ∷ b) i h e = omega arith
text-no-zero (suc x ∷ b) zero h e = omega arith
text-no-zero (suc x ∷ b) (suc i) h e = text-no-zero b i (omega arith) e

zeros-text : (t : List ℕ) → text_of (zeros_after t) ≡ []
unfolding text_of
zeros-text t = go (eqb (length t % 2) 1)
  where
    go : (b : Bool) → text_of (cond b (0 ∷ []) (0 ∷ 0 ∷ [])) ≡ []
    go true = refl
    go false = refl

text-before : (t : List ℕ) → NoZero t → (z : List ℕ) → text_of z ≡ [] → text_of (t ++ z) ≡ t
unfolding text_of
text-before [] h z e = e
text-before (zero ∷ t) h z e = absurd (h 0 (omega arith) refl)
text-before (suc x ∷ t) h z e = ap (λ (l : List ℕ). suc x ∷ l) (text-before t (λ i l q. h (suc i) (omega arith) q) z e)

strings : (b : List ℕ) → (good_string b ≡ true) ↔ IsString b (text_of b)
unfolding good_string
strings b = (
  (λ e. record { no_zero = text-no-zero b; is = same→eq b (padded (text_of b)) (true→T e) ∙ padded-is (text_of b) }),
  (λ s. T→true (subst (λ (l : List ℕ). T (same b l)) (s.is ∙ sym (padded-is (text_of b))) (same_refl b))),
)

texts : (b t : List ℕ) → IsString b t → text_of b ≡ t
texts b t s = ap text_of s.is ∙ text-before t s.no_zero (zeros_after t) (zeros-text t)

-- ---- contexts

run-longer : (bs : List RecordBefore) (b : RecordBefore) → longer (run_before bs) b.at ≡ run_before (b ∷ bs)
unfolding run_before farthest
run-longer [] b = refl
run-longer (c ∷ bs) b = ap (λ (n : ℕ). Some (record { first = farthest c bs; count = n })) (add-one (suc (length bs)))

-- what follows from a record is what looking back at it says
abbrev pub onto : Option Kind → ℕ → List RecordBefore → List RecordBefore
onto o at bs = elim o [ None ↦ bs | Some k ↦ record { kind = k; at = at } ∷ bs ]

pub next-looks : (o : Option Kind) (at : ℕ) (bs : List RecordBefore) → next (look_back bs) at o ≡ look_back (onto o at bs)
unfolding look_back type_byte library_before cell_before layer_before struct_before properties_before end_before run_before
next-looks None at bs = refl
next-looks (Some Library) at bs = refl
next-looks (Some Struct) at bs = refl
next-looks (Some Cprpty) at bs = refl
next-looks (Some Property) at bs = ap (λ (r : Option Run). record { library = library_before bs; cell = cell_before bs; layer = layer_before bs; fresh = false; run = r; ended = false }) (run-longer (properties_before bs) (record { kind = Property; at = at }))
next-looks (Some Layer) at bs = refl
next-looks (Some Box) at bs = refl
next-looks (Some Poly) at bs = refl
next-looks (Some Wire) at bs = refl
next-looks (Some Text) at bs = refl
next-looks (Some Sref) at bs = refl
next-looks (Some Endlib) at bs = refl

walk_looks : (k : ℕ) (rest : List ℕ) (c : Context) (at : ℕ) (st : Step) → StepAt rest c at st → (bs : List RecordBefore) → c ≡ look_back bs → LooksBack bs (walk k st).records
unfolding walk context_after
walk_looks zero rest c at (stop v) s bs e = tt
walk_looks (suc k) rest c at (stop v) s bs e = tt
walk_looks zero rest c at (go p more) s bs e = tt
walk_looks (suc k) rest c at (go p more) s bs e =
    let o = kind_of p.rec.type in
    let q : p.context ≡ look_back bs = s.4 ∙ e in
    let n = next p.context p.at o in
    let to = p.at + size p.rec in
    (q, walk_looks k more n to (step n to more) (step-at n to more) (onto o p.at bs) (ap (λ (u : Context). next u p.at o) q ∙ next-looks o p.at bs))

pub start-looks : start ≡ look_back []
unfolding start look_back library_before cell_before layer_before struct_before properties_before end_before run_before
start-looks = refl

contexts : (f : List ℕ) → LooksBack [] (walk_of f).records
unfolding walk_of begin opening walk
contexts [] = tt
contexts (a ∷ []) = tt
contexts (a ∷ b ∷ []) = tt
contexts (a ∷ b ∷ c ∷ []) = tt
contexts (a ∷ b ∷ c ∷ l ∷ bs) = go (eqb a 99 && eqb b 103 && eqb c 120) (eqb l 0)
  where
    n : ℕ
    n = suc (suc (suc (suc (length bs))))

    go : (y z : Bool) → LooksBack [] (walk n (opened (cond y (cond z 0 2) 1) bs)).records
    go true true = walk_looks n bs start 4 (step start 4 bs) (step-at start 4 bs) [] start-looks
    go true false = tt
    go false z = tt

-- ---- the k-th records

module _ {A : Type 0} where
  ends : (x : A) → None ≡ Some x → ⊥
  ends x e = let z : ◌≡◌ {A = ℕ} 0 1 = cc in omega arith

  each_same : (xs ys : List A) → ((k : ℕ) → slice_get xs k ≡ slice_get ys k) → xs ≡ ys
  each_same [] [] h = refl
  each_same [] (y ∷ ys) h = absurd (ends y (h 0))
  each_same (x ∷ xs) [] h = absurd (ends x (sym (h 0)))
  each_same (x ∷ xs) (y ∷ ys) h =
      let e : Some x ≡ Some y = h 0 in
      let p : x ≡ y = cc in
      ap₂ ◌∷◌ p (each_same xs ys (λ k. h (suc k)))

  each : (xs ys : List A) → (xs ≡ ys) ↔ ((length xs ≡ length ys) × ((k : ℕ) → slice_get xs k ≡ slice_get ys k))
  each xs ys = ((λ e. (ap length e, λ k. ap (λ (l : List A). slice_get l k) e)), (λ h. each_same xs ys h.1))

pub agreement : Agreement
agreement =
    record {
      types = types;
      types-written = types-written;
      unknown = unknown-kind;
      sizes = sizes-agree;
      flags = flags-allowed;
      flags-alike = flags-alike;
      strings = strings;
      texts = texts;
      contexts = contexts;
      each = λ f g. each _ _;
    }
