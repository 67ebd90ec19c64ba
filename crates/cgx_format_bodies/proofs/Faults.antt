-- Which of the rules 8 to 12 a body breaks first, from the room that its fields have and the tests of code. Assumes nothing.
use Rattle.std.specs.Prelude.{Option, Some}
use mathlib.Core.Path.{◌≡◌, refl, sym, ap, ◌∙◌}
use mathlib.Core.Bool.{Bool, true, false, ◌&&◌}
use mathlib.Core.List.{List, [], ◌∷◌}
use Prim.Native.Nat.{ℕ}
use lib.Dec.{T}
use lib.ListN.{length}
use Rattle.cgx_spec.specs.declared.Kind.{Kind}
use Rattle.cgx_spec.specs.Fields.{Piece, every, lengths_fit, keeps}
use Rattle.cgx_spec.specs.Kinds.{layout}
use Rattle.cgx_spec.specs.Records.{rule, broken, field_rules}
use Rattle.cgx_spec.proofs.Cuts.{cut_at, cut-is, Room, sane, room-fit, fit-room}
use Rattle.cgx_spec.proofs.Lists.{T→true, ¬T→false}
use Rattle.cgx_format_bodies.specs.Bodies.{body_fault}

-- ---- which fault it is

abbrev first_of : Bool → Bool → Bool → Bool → Bool → Option ℕ
first_of a b c d e = broken (rule 8 a ∷ rule 9 b ∷ rule 10 c ∷ rule 11 d ∷ rule 12 e ∷ [])

module _ (k : Kind) (fl : ℕ) (b : List ℕ) where
  abbrev ps : List Piece
  ps = cut_at (layout k fl) 0 b

  by-cut : body_fault k fl b ≡ broken (field_rules ps)
  unfolding body_fault
  by-cut = ap (λ (qs : List Piece). broken (field_rules qs)) (cut-is (layout k fl) b)

  pub fit : T (every sane (layout k fl)) → Room (layout k fl) 0 (length b) → lengths_fit ps ≡ true
  fit s r = T→true (room-fit (layout k fl) 0 b s r)

  pub unfit : T (every sane (layout k fl)) → (Room (layout k fl) 0 (length b) → ⊥) → lengths_fit ps ≡ false
  unfit s r = ¬T→false (λ t. r (fit-room (layout k fl) 0 b s t))

  pub fault-8 : T (every sane (layout k fl)) → (Room (layout k fl) 0 (length b) → ⊥) → Some 8 ≡ body_fault k fl b
  unfolding broken
  fault-8 s r = sym (by-cut ∙ ap (λ (x : Bool). first_of x (keeps 9 ps) (keeps 10 ps) (keeps 11 ps) (keeps 12 ps)) (unfit s r))

  -- with room for the fields, the rules 9 to 12
  pub fault-on : {r : Option ℕ} (t9 t10 t11 t12 : Bool) → T (every sane (layout k fl)) → Room (layout k fl) 0 (length b)
      → r ≡ broken (rule 9 t9 ∷ rule 10 t10 ∷ rule 11 t11 ∷ rule 12 t12 ∷ [])
      → keeps 9 ps ≡ t9 → keeps 10 ps ≡ t10 → keeps 11 ps ≡ t11 → keeps 12 ps ≡ t12 → r ≡ body_fault k fl b
  unfolding broken
  fault-on t9 t10 t11 t12 s m e e9 e10 e11 e12 =
      e ∙ sym (by-cut
      ∙ ap (λ (x : Bool). first_of x (keeps 9 ps) (keeps 10 ps) (keeps 11 ps) (keeps 12 ps)) (fit s m)
      ∙ ap (λ (x : Bool). first_of true x (keeps 10 ps) (keeps 11 ps) (keeps 12 ps)) e9
      ∙ ap (λ (x : Bool). first_of true t9 x (keeps 11 ps) (keeps 12 ps)) e10
      ∙ ap (λ (x : Bool). first_of true t9 t10 x (keeps 12 ps)) e11
      ∙ ap (λ (x : Bool). first_of true t9 t10 t11 x) e12)

-- ---- conjunctions, as `every` has them

pub alone : {a r : Bool} → r ≡ a → (a && true) ≡ r
alone {a} {r} e = go a ∙ sym e
  where
    go : (x : Bool) → (x && true) ≡ x
    go true = refl
    go false = refl

pub pair : {a b r s : Bool} → r ≡ a → s ≡ b → (a && (b && true)) ≡ (r && s)
pair {a} {b} {r} {s} e f = ap (λ (x : Bool). x && (b && true)) (sym e) ∙ ap (λ (x : Bool). r && x) (alone f)
