-- A phase is what rule 6 sees of a context: it refuses the same records, and goes on with the context. Assumes nothing.
use Rattle.std.specs.Prelude.{None, Option, Some}
use mathlib.Core.Path.{◌≡◌, refl, sym, ap, ap₂, ◌∙◌, subst}
use mathlib.Core.Bool.{Bool, true, false, cond}
use Prim.Native.Nat.{ℕ}
use lib.Dec.{T}
use Rattle.cgx_spec.specs.declared.Kind.{Kind}
use Rattle.cgx_spec.specs.declared.Kind.TheVariants.{Library as LIBRARY, Struct as STRUCT, Cprpty as CPRPTY, Property as PROPERTY, Layer as LAYER, Box as BOX, Poly as POLY, Wire as WIRE, Text as TEXT, Sref as SREF, Endlib as ENDLIB}
use Rattle.cgx_spec.specs.declared.Context.{Context}
use Rattle.cgx_spec.specs.Order.{start, allowed, next, OrderFacts, facts_of}
use Rattle.cgx_spec.proofs.Chain.{may, then, may-is, then_is}
use Rattle.cgx_format_phases.specs.declared.Phase.{Phase}
use Rattle.cgx_format_phases.specs.declared.Phase.TheVariants.{Start, Library, Fresh, Cell, Layer, CellRun, LayerRun, Ended, Refused}
use Rattle.cgx_format_phases.specs.Phases.{is_ended, allowed_phase, after_phase, facts, facts_in, seen, Fits}

pub fits-start : Fits Start start
unfolding Fits start
fits-start = refl

-- ---- the table

-- where a record is allowed, the facts after it
abbrev onward : Option OrderFacts → Option Kind → Option OrderFacts
onward None o = None
onward (Some s) o = cond (may s o) (Some (seen (then s o))) None

abbrev Agrees : Phase → Option Kind → Type 0
Agrees p o = onward (facts_in p) o ≡ facts_in (after_phase p o)

each-kind : (q : Phase) → Agrees q None → Agrees q (Some LIBRARY) → Agrees q (Some STRUCT) → Agrees q (Some CPRPTY) → Agrees q (Some PROPERTY) → Agrees q (Some LAYER) → Agrees q (Some BOX) → Agrees q (Some POLY) → Agrees q (Some WIRE) → Agrees q (Some TEXT) → Agrees q (Some SREF) → Agrees q (Some ENDLIB) → (o : Option Kind) → Agrees q o
each-kind q u l s c p y b o w t r e None = u
each-kind q u l s c p y b o w t r e (Some LIBRARY) = l
each-kind q u l s c p y b o w t r e (Some STRUCT) = s
each-kind q u l s c p y b o w t r e (Some CPRPTY) = c
each-kind q u l s c p y b o w t r e (Some PROPERTY) = p
each-kind q u l s c p y b o w t r e (Some LAYER) = y
each-kind q u l s c p y b o w t r e (Some BOX) = b
each-kind q u l s c p y b o w t r e (Some POLY) = o
each-kind q u l s c p y b o w t r e (Some WIRE) = w
each-kind q u l s c p y b o w t r e (Some TEXT) = t
each-kind q u l s c p y b o w t r e (Some SREF) = r
each-kind q u l s c p y b o w t r e (Some ENDLIB) = e

-- the table is rule 6 and what follows from a record, of the states, by computation
table : (p : Phase) → is_ended p ≡ false → (o : Option Kind) → Agrees p o
unfolding may then
table Start e = each-kind Start refl refl refl refl refl refl refl refl refl refl refl refl
table Library e = each-kind Library refl refl refl refl refl refl refl refl refl refl refl refl
table Fresh e = each-kind Fresh refl refl refl refl refl refl refl refl refl refl refl refl
table Cell e = each-kind Cell refl refl refl refl refl refl refl refl refl refl refl refl
table Layer e = each-kind Layer refl refl refl refl refl refl refl refl refl refl refl refl
table CellRun e = each-kind CellRun refl refl refl refl refl refl refl refl refl refl refl refl
table LayerRun e = each-kind LayerRun refl refl refl refl refl refl refl refl refl refl refl refl
table Ended e = absurd (subst T e tt)
table Refused e = each-kind Refused refl refl refl refl refl refl refl refl refl refl refl refl

-- ---- the laws

abbrev over : Option OrderFacts → Bool
over None = false
over (Some s) = s.ended

abbrev has_state : Option OrderFacts → Bool
has_state None = false
has_state (Some s) = true

ended-in : (p : Phase) → over (facts_in p) ≡ is_ended p
ended-in Start = refl
ended-in Library = refl
ended-in Fresh = refl
ended-in Cell = refl
ended-in Layer = refl
ended-in CellRun = refl
ended-in LayerRun = refl
ended-in Ended = refl
ended-in Refused = refl

allowed-in : (p : Phase) → has_state (facts_in p) ≡ allowed_phase p
allowed-in Start = refl
allowed-in Library = refl
allowed-in Fresh = refl
allowed-in Cell = refl
allowed-in Layer = refl
allowed-in CellRun = refl
allowed-in LayerRun = refl
allowed-in Ended = refl
allowed-in Refused = refl

seen-ended : (s : OrderFacts) → (seen s).ended ≡ s.ended
seen-ended s = go s.ended refl
  where
    go : (b : Bool) → s.ended ≡ b → (cond b (facts false false false false false true) s).ended ≡ s.ended
    go true e = sym e
    go false e = refl

state-when : (b : Bool) (s : OrderFacts) → has_state (cond b (Some s) None) ≡ b
state-when true s = refl
state-when false s = refl

module _ (p : Phase) (c : Context) (f : Fits p c) where
  pub ended_is : c.ended ≡ is_ended p
  unfolding Fits
  ended_is = sym (seen-ended (facts_of c)) ∙ ap over f ∙ ended-in p

  module _ (e : is_ended p ≡ false) where
    going : Some (facts_of c) ≡ facts_in p
    unfolding Fits
    going = ap (λ (b : Bool). Some (cond b (facts false false false false false true) (facts_of c))) (sym (ended_is ∙ e)) ∙ f

    module _ (at : ℕ) (o : Option Kind) where
      on : cond (allowed c o) (Some (seen (facts_of (next c at o)))) None ≡ facts_in (after_phase p o)
      on =
          ap₂ (λ (b : Bool) (s : OrderFacts). cond b (Some (seen s)) None) (may-is c o) (then_is c at o)
          ∙ ap (λ (s : Option OrderFacts). onward s o) going
          ∙ table p e o

      -- rule 6
      pub allowed-is : allowed c o ≡ allowed_phase (after_phase p o)
      allowed-is = sym (state-when (allowed c o) (seen (facts_of (next c at o)))) ∙ ap has_state on ∙ allowed-in (after_phase p o)

      -- and what follows
      pub fits_on : allowed c o ≡ true → Fits (after_phase p o) (next c at o)
      unfolding Fits
      fits_on a = ap (λ (b : Bool). cond b (Some (seen (facts_of (next c at o)))) None) (sym a) ∙ on
