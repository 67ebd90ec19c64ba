-- The rules 7, 10 and 11 of an SREF, by its flags, as the code finds them. Assumes nothing.
use Rattle.std.specs.Prelude.{None, Option, Some}
use mathlib.Core.Path.{◌≡◌, refl, sym, ap, ◌∙◌}
use mathlib.Core.Bool.{Bool, true, false, ◌&&◌, cond}
use mathlib.Core.List.{List, [], ◌∷◌}
use Prim.Native.Nat.{ℕ, ◌≤◌, ◌<◌}
use borrow.Author.Tests.{le-leb, lt-leb}
use lib.Dec.{leb}
use lib.IntN.{pos}
use lib.Signed.{le_z}
use Rattle.cgx_spec.specs.Reals.{positive_real}
use Rattle.cgx_spec.specs.Fields.{Field, real, positive, string, ones, rule_of}
use Rattle.cgx_spec.specs.Kinds.{angle, magnif, array, only_if, count, long as long-field, point as point-field, layout}
use Rattle.cgx_spec.specs.Records.{rule, broken}
use Rattle.cgx_format_fields.specs.Zeros.{no_zero}
use Rattle.cgx_format_kinds.specs.declared.Point.{Point}
use Rattle.cgx_format_sref.specs.declared.SrefLayout.{SrefLayout}
use Rattle.cgx_format_sref.specs.Layouts.{sref_layout}
use Rattle.cgx_format_kinds.specs.declared.Grid.{Grid}
use Rattle.cgx_write_given.specs.Given.{Item, eight, words, long, point, if_set, enough, groups, good_item, good_list, meets, keeping, pairwise, enough_given, keeps_given, given_sref}
use Rattle.cgx_write_plans.specs.Plans.{text_fault, given_fault}
use Rattle.cgx_write_plans.specs.Srefs.{scale_good, grid_good, sref_fault}

-- ---- the eight cases

textual : (z : Bool) → cond {A = Option ℕ} (z && true) None (Some 11) ≡ cond z None (Some 11)
textual true = refl
textual false = refl

scaled : (s z : Bool) → cond {A = Option ℕ} (s && true) (cond (z && true) None (Some 11)) (Some 10) ≡ cond s (cond z None (Some 11)) (Some 10)
scaled true z = textual z
scaled false z = refl

repeated : (c r z : Bool) → cond {A = Option ℕ} (c && true && (r && true && true)) (cond (z && true) None (Some 11)) (Some 10) ≡ cond (c && r) (cond z None (Some 11)) (Some 10)
repeated true true z = textual z
repeated true false z = refl
repeated false r z = refl

both : (s c r z : Bool) → cond {A = Option ℕ} (s && (c && true && (r && true && true))) (cond (z && true) None (Some 11)) (Some 10) ≡ cond s (cond (c && r) (cond z None (Some 11)) (Some 10)) (Some 10)
both true c r z = repeated c r z
both false c r z = refl

module _ (at : Point) (turn scale : List ℕ) (g : Grid) (t : List ℕ) where
  abbrev fields_by : Bool → Bool → Bool → List Field
  fields_by a m r =
      long-field ∷ long-field ∷ only_if a real ∷ only_if m positive ∷ only_if r count ∷ only_if r count ∷ only_if r point-field ∷ only_if r point-field ∷ string ∷ []

  abbrev items_by : Bool → Bool → Bool → List Item
  items_by a m r =
      long at.x ∷ long at.y ∷ if_set a (eight turn) ∷ if_set m (eight scale) ∷ if_set r (long g.cols) ∷ if_set r (long g.rows) ∷ if_set r (point g.across) ∷ if_set r (point g.up) ∷ words t ∷ []

  abbrev kept_by : ℕ → Bool → Bool → Bool → Bool
  kept_by n a m r = pairwise (keeping n) (fields_by a m r) (items_by a m r)

  abbrev fault_by : Bool → Bool → Bool → Bool → Option ℕ
  fault_by f a m r =
      broken
      (rule 7 f ∷ rule 8 (pairwise enough (fields_by a m r) (items_by a m r)) ∷ rule 9 (kept_by 9 a m r) ∷ rule 10 (kept_by 10 a m r) ∷ rule 11 (kept_by 11 a m r) ∷ rule 12 (kept_by 12 a m r) ∷ [])

  by_flags : (f a m r : Bool) → fault_by f a m r ≡ cond f (cond (scale_good m scale) (cond (grid_good r g) (text_fault t) (Some 10)) (Some 10)) (Some 7)
  unfolding broken enough groups rule_of good_item good_list meets ones
  by_flags false a m r = refl
  by_flags true true true true = both (positive_real scale) (le_z (pos 1) g.cols) (le_z (pos 1) g.rows) (no_zero t)
  by_flags true false true true = both (positive_real scale) (le_z (pos 1) g.cols) (le_z (pos 1) g.rows) (no_zero t)
  by_flags true true true false = scaled (positive_real scale) (no_zero t)
  by_flags true false true false = scaled (positive_real scale) (no_zero t)
  by_flags true true false true = repeated (le_z (pos 1) g.cols) (le_z (pos 1) g.rows) (no_zero t)
  by_flags true false false true = repeated (le_z (pos 1) g.cols) (le_z (pos 1) g.rows) (no_zero t)
  by_flags true true false false = textual (no_zero t)
  by_flags true false false false = textual (no_zero t)

  pub sref-fault : (fl : ℕ) → sref_fault fl scale g t ≡ given_fault (given_sref fl at turn scale g t)
  unfolding sref_fault given_fault given_sref enough_given keeps_given layout
  sref-fault fl = sym (by_flags (leb fl 15) (angle fl) (magnif fl) (array fl))

-- ---- as the code finds them

module _ (fl : ℕ) (scale : List ℕ) (g : Grid) (t : List ℕ) where
  -- by what the layout says of the flags
  pub scaled-by : {l : SrefLayout} {b : Bool} → l ≡ sref_layout fl → b ≡ scale_good l.scaled scale → scale_good (magnif fl) scale ≡ b
  scaled-by e h = sym (h ∙ ap (λ (l : SrefLayout). scale_good l.scaled scale) e)

  pub repeated-by : {l : SrefLayout} {b : Bool} → l ≡ sref_layout fl → b ≡ grid_good l.repeated g → grid_good (array fl) g ≡ b
  repeated-by e h = sym (h ∙ ap (λ (l : SrefLayout). grid_good l.repeated g) e)

  pub sref-flags : 15 < fl → Some 7 ≡ sref_fault fl scale g t
  unfolding sref_fault
  sref-flags h = simp (lt-leb fl 15 h)

  pub sref-scale : fl ≤ 15 → scale_good (magnif fl) scale ≡ false → Some 10 ≡ sref_fault fl scale g t
  unfolding sref_fault
  sref-scale h s = simp (le-leb fl 15 h, s)

  pub sref-grid : fl ≤ 15 → scale_good (magnif fl) scale ≡ true → grid_good (array fl) g ≡ false → Some 10 ≡ sref_fault fl scale g t
  unfolding sref_fault
  sref-grid h s r = simp (le-leb fl 15 h, s, r)

  pub sref-text : fl ≤ 15 → scale_good (magnif fl) scale ≡ true → grid_good (array fl) g ≡ true → text_fault t ≡ sref_fault fl scale g t
  unfolding sref_fault
  sref-text h s r = simp (le-leb fl 15 h, s, r)
