-- The record that a call writes: a reader's rules say of it what the writer's say of the call, it means what was given, and it is in normal form. Assumes nothing.
use Rattle.std.specs.Prelude.{None, Option, Some}
use mathlib.Core.Path.{◌≡◌, refl, sym, ap, ◌∙◌}
use mathlib.Core.Bool.{Bool, true, false, not, ◌&&◌, cond}
use mathlib.Core.List.{List, [], ◌∷◌, ◌++◌}
use Prim.Native.Nat.{ℕ, suc, ◌+◌, ◌≤◌, ◌<◌}
use native.Mathlib.Omega.{arith}
use lib.Dec.{T, leb, leb→le, le→leb}
use lib.ListN.{length}
use Rattle.cgx_spec.specs.declared.Kind.{Kind}
use Rattle.cgx_spec.specs.declared.Kind.TheVariants.{Library, Struct, Cprpty, Property, Layer, Box, Poly, Wire, Text, Sref, Endlib}
use Rattle.cgx_spec.specs.declared.Context.{Context}
use Rattle.cgx_spec.specs.Fields.{Field, pieces, lengths_fit, keeps, values, normal_bytes, join}
use Rattle.cgx_spec.specs.Kinds.{kind_of, Flags, meaningless, version, up_to, orientation, flags_for, allows, good_flags, flags_of, layout, type_for}
use Rattle.cgx_spec.specs.Kinds
use Rattle.cgx_spec.specs.Order.{allowed}
use Rattle.cgx_spec.specs.Records.{size, pieces_of, meaning_of, normal_of, Rule, rule, broken, rules, fault_of}
use Rattle.cgx_spec.specs.Walking.{forged}
use Rattle.cgx_spec.specs.Written.{Sized}
use Rattle.cgx_spec.proofs.Lists.{T→true, true→T}
use Rattle.cgx_spec.proofs.Normal.{flags-again, flags-byte}
use Rattle.cgx_spec.proofs.Agreement.{kind-for}
use Rattle.cgx_write_given.specs.declared.Writer.{Writer}
use Rattle.cgx_write_given.specs.Given.{Given, stored, fields_of, enough_given, keeps_given, meant, written}
use Rattle.cgx_write_given.specs.Typed.{WellTyped}
use Rattle.cgx_write_given.specs.Writing.{offset_of, context_of, place_of, max_size, allowed_here, rules_of, checks}
use Rattle.cgx_write_given.proofs.Layouts.{shape, paired, pieces_are, fit-law, keeps-law, values-law, normals-law, body_bytes, body-even}

-- ---- lists of rules

-- what one more rule at the end makes of the number before it
abbrev pub further : Option ℕ → ℕ → Bool → Option ℕ
further None n b = cond b None (Some n)
further (Some m) n b = Some m

pub broken-further : (rs : List Rule) (n : ℕ) (b : Bool) → broken (rs ++ (rule n b ∷ [])) ≡ further (broken rs) n b
unfolding broken
broken-further [] n b = refl
broken-further (r ∷ rs) n b = one r.kept (broken-further rs n b)
  where
    one : (k : Bool) → broken (rs ++ (rule n b ∷ [])) ≡ further (broken rs) n b → cond k (broken (rs ++ (rule n b ∷ []))) (Some r.number) ≡ further (cond k (broken rs) (Some r.number)) n b
    one true e = e
    one false e = refl

-- the checks of a call: 16 first, 14 last
pub checks-are : (n : ℕ) (w : Writer) (g : Given) → broken (checks n w g) ≡ cond (forged n (place_of w)) (Some 16) (further (broken (rules_of (context_of w) g)) 14 (leb (offset_of w + size (written g)) n))
unfolding checks
checks-are n w g = one (forged n (place_of w)) ∙ ap (cond (forged n (place_of w)) (Some 16)) (broken-further (rules_of (context_of w) g) 14 (leb (offset_of w + size (written g)) n))
  where
    one : (b : Bool) → broken (rule 16 (not b) ∷ (rules_of (context_of w) g ++ (rule 14 (leb (offset_of w + size (written g)) n) ∷ []))) ≡ cond b (Some 16) (broken (rules_of (context_of w) g ++ (rule 14 (leb (offset_of w + size (written g)) n) ∷ [])))
    one true = unfold broken in refl
    one false = unfold broken in refl

unkept : (n : ℕ) (b : Bool) (rs : List Rule) → broken (rule n b ∷ rs) ≡ None → (b ≡ true) × (broken rs ≡ None)
unfolding broken
unkept n true rs e = (refl, e)
unkept n false rs e = absurd (let z : ◌≡◌ {A = ℕ} 0 1 = cc in omega arith)

-- ---- flags

good-flags : (f : Flags) (fl : ℕ) → allows f (Kinds.meant f fl) ≡ allows f fl
good-flags meaningless fl = refl
good-flags version fl = refl
good-flags (up_to n) fl = refl
good-flags orientation fl = refl

layout-flags : (k : Kind) (fl : ℕ) → layout k (flags_of k fl) ≡ layout k fl
unfolding layout
layout-flags Library fl = refl
layout-flags Struct fl = refl
layout-flags Cprpty fl = refl
layout-flags Property fl = refl
layout-flags Layer fl = refl
layout-flags Box fl = refl
layout-flags Poly fl = refl
layout-flags Wire fl = refl
layout-flags Text fl = refl
layout-flags Sref fl = refl
layout-flags Endlib fl = refl

-- ---- the record of a well-typed call

type-small : (k : Kind) → type_for k < 256
type-small Library = omega arith
type-small Struct = omega arith
type-small Cprpty = omega arith
type-small Property = omega arith
type-small Layer = omega arith
type-small Box = omega arith
type-small Poly = omega arith
type-small Wire = omega arith
type-small Text = omega arith
type-small Sref = omega arith
type-small Endlib = omega arith

pub kind-written : (g : Given) → kind_of (written g).type ≡ Some g.kind
unfolding written
kind-written g = kind-for g.kind

module _ (g : Given) (w : WellTyped g) where
  cut_up : pieces_of g.kind (written g) ≡ paired (fields_of g) g.items
  unfolding pieces_of written
  cut_up = ap (λ (fs : List Field). pieces fs (join stored g.items)) (layout-flags g.kind g.flags) ∙ pieces_are g.items (shape g.kind g.flags) w.items

  fits-given : size (written g) ≤ max_size → lengths_fit (pieces_of g.kind (written g)) ≡ enough_given g
  unfolding enough_given
  fits-given l =
      let k : 0 + length (join stored g.items) ≤ 65530 = unfold written in (omega arith) in
      ap lengths_fit cut_up ∙ fit-law g.items (shape g.kind g.flags) w.items k

  module _ (t : T (keeps_given 11 g)) where
    keeps_given_lem : (m : ℕ) → keeps (suc m) (pieces_of g.kind (written g)) ≡ keeps_given (suc m) g
    unfolding keeps_given
    keeps_given_lem m = ap (keeps (suc m)) cut_up ∙ keeps-law m (fields_of g) g.items w.items t

    means-given : meaning_of g.kind (written g) ≡ meant g
    unfolding meaning_of meant keeps_given
    means-given =
        let f : flags_of g.kind (written g).flags ≡ flags_of g.kind g.flags = unfold written in (flags-again g.kind g.flags w.flags) in
        let v = ap values cut_up ∙ values-law (fields_of g) g.items w.items t in
        λ i. record { kind = g.kind; flags = f i; fields = v i }

    -- the rules of a reader, those of the writer in the same order
    reads-given : (here : Bool) → size (written g) ≤ max_size
        → rules here (Some g.kind) (written g)
        ≡ rule 6 here ∷ rule 7 (good_flags g.kind g.flags) ∷ rule 8 (enough_given g) ∷ rule 9 (keeps_given 9 g) ∷ rule 10 (keeps_given 10 g) ∷ rule 11 (keeps_given 11 g) ∷ rule 12 (keeps_given 12 g) ∷ []
    unfolding rules
    reads-given here l =
        let f : good_flags g.kind (written g).flags ≡ good_flags g.kind g.flags = unfold written in (good-flags (flags_for g.kind) g.flags) in
        rw (f, fits-given l, keeps_given_lem 8, keeps_given_lem 9, keeps_given_lem 10, keeps_given_lem 11)

    same_number : (c : Context) → size (written g) ≤ max_size → broken (rules_of c g) ≡ cond c.ended (Some 6) (fault_of c (written g))
    unfolding rules_of
    same_number c l =
        let a = allowed c (Some g.kind) in
        let six : List Rule = rule 7 (good_flags g.kind g.flags) ∷ rule 8 (enough_given g) ∷ rule 9 (keeps_given 9 g) ∷ rule 10 (keeps_given 10 g) ∷ rule 11 (keeps_given 11 g) ∷ rule 12 (keeps_given 12 g) ∷ [] in
        broken-further (rule 6 (allowed_here c g) ∷ six) 15 (leb (size (written g)) max_size)
        ∙ ap (further (broken (rule 6 (allowed_here c g) ∷ six)) 15) (T→true (le→leb (size (written g)) max_size l))
        ∙ whole (broken (rule 6 (allowed_here c g) ∷ six))
        ∙ ending c.ended a six
        ∙ ap (λ (rs : List Rule). cond c.ended (Some 6) (broken rs)) (sym (reads-given a l))
        ∙ ap (λ (o : Option Kind). cond c.ended (Some 6) (broken (rules (allowed c o) o (written g)))) (sym (kind-written g))
      where
        whole : (o : Option ℕ) → further o 15 true ≡ o
        whole None = refl
        whole (Some n) = refl

        ending : (e a : Bool) (rs : List Rule) → broken (rule 6 (not e && a) ∷ rs) ≡ cond e (Some 6) (broken (rule 6 a ∷ rs))
        ending true a rs = unfold broken in refl
        ending false a rs = refl

  normal-given : normal_of g.kind (written g) ≡ written g
  unfolding normal_of written
  normal-given =
      let f = flags-again g.kind g.flags w.flags in
      let b = ap normal_bytes cut_up ∙ normals-law (fields_of g) g.items w.items in
      λ i. record { type = type_for g.kind; flags = f i; body = b i }

pub same-rules : (c : Context) (g : Given) → WellTyped g → keeps_given 11 g ≡ true → size (written g) ≤ max_size → broken (rules_of c g) ≡ cond c.ended (Some 6) (fault_of c (written g))
same-rules c g w t l = same_number g w (true→T t) c l

-- ---- a call that breaks no rule

pub sized-given : (g : Given) → WellTyped g → size (written g) ≤ max_size → Sized (written g)
unfolding written
sized-given g w l =
    record {
      even = body-even (fields_of g) g.items w.items;
      small = omega arith;
      type-byte = type-small g.kind;
      flags-byte = flags-byte g.kind g.flags w.flags;
      body_bytes = body_bytes (fields_of g) g.items w.items;
    }

pub record Good (c : Context) (g : Given) : Type 0 where
  pub unended : c.ended ≡ false
  pub sized : Sized (written g)
  pub kept : fault_of c (written g) ≡ None
  pub means : meaning_of g.kind (written g) ≡ meant g
  pub normal : normal_of g.kind (written g) ≡ written g

pub good-call : (c : Context) (g : Given) → WellTyped g → broken (rules_of c g) ≡ None → Good c g
unfolding rules_of
good-call c g w e =
    let e₆ = unkept 6 (allowed_here c g) _ e in
    let e₇ = unkept 7 (good_flags g.kind g.flags) _ e₆.1 in
    let e₈ = unkept 8 (enough_given g) _ e₇.1 in
    let e₉ = unkept 9 (keeps_given 9 g) _ e₈.1 in
    let e₁₀ = unkept 10 (keeps_given 10 g) _ e₉.1 in
    let e₁₁ = unkept 11 (keeps_given 11 g) _ e₁₀.1 in
    let e₁₂ = unkept 12 (keeps_given 12 g) _ e₁₁.1 in
    let e₁₅ = unkept 15 (leb (size (written g)) max_size) _ e₁₂.1 in
    let l : size (written g) ≤ max_size = leb→le (size (written g)) max_size (true→T e₁₅.0) in
    let t : T (keeps_given 11 g) = true→T e₁₁.0 in
    let o : c.ended ≡ false = opens c.ended (allowed c (Some g.kind)) (true→T e₆.0) in
    record {
      unended = o;
      sized = sized-given g w l;
      kept = ap (λ (b : Bool). cond b (Some 6) (fault_of c (written g))) (sym o) ∙ sym (same_number g w t c l) ∙ e;
      means = means-given g w t;
      normal = normal-given g w;
    }
  where
    opens : (b a : Bool) → T (not b && a) → b ≡ false
    opens true a t = absurd t
    opens false a t = refl
