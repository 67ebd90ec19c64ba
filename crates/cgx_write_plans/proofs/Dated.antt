-- The rules 9, 10 and 11 of dates, scales and a text, in their order, as the code finds the first that is broken. Assumes nothing.
use Rattle.std.specs.Prelude.{None, Option, Some}
use mathlib.Core.Path.{◌≡◌, refl}
use mathlib.Core.Bool.{Bool, true, false, ◌&&◌, cond}
use mathlib.Core.List.{List}
use Prim.Native.Nat.{ℕ}
use lib.IntN.{ℤ}
use Rattle.cgx_spec.specs.Numbers.{short_bytes}
use Rattle.cgx_spec.specs.Reals.{positive_real}
use Rattle.cgx_spec.specs.Dates.{calendar, good_date}
use Rattle.cgx_spec.specs.Fields.{rule_of}
use Rattle.cgx_spec.specs.Kinds.{layout}
use Rattle.cgx_spec.specs.Records.{broken}
use Rattle.cgx_spec.proofs.Lists.{and-true}
use Rattle.std.specs.Option.{option_or}
use Rattle.cgx_format_fields.specs.Zeros.{no_zero}
use Rattle.cgx_format_kinds.specs.declared.Date.{Date}
use Rattle.cgx_write_given.specs.declared.Owner.{Owner}
use Rattle.cgx_write_given.specs.declared.Owner.TheVariants.{Cell, Object}
use Rattle.cgx_write_given.specs.Given.{date_bytes, enough, groups, meets, good_item, good_list, enough_given, keeps_given, given_library, given_struct, given_owned}
use Rattle.cgx_write_plans.specs.Plans.{text_fault, given_fault}

-- ---- one rule

-- the zero byte of a date's bytes is there
pub date-rule : (d : Date) → good_date (date_bytes d) ≡ calendar (date_bytes d)
unfolding good_date date_bytes short_bytes
date-rule d = and-true (calendar (date_bytes d))

-- ---- the first of several

ascending : (a b c d e : Bool)
    → option_or {T = ℕ} (cond (a && b) None (Some 9)) (option_or (cond (c && d) None (Some 10)) (cond e None (Some 11))) ≡ cond (a && (b && true)) (cond (c && (d && true)) (cond (e && true) None (Some 11)) (Some 10)) (Some 9)
ascending false b c d e = refl
ascending true false c d e = refl
ascending true true false d e = refl
ascending true true true false e = refl
ascending true true true true false = refl
ascending true true true true true = refl

pub first-some : (x y : Option ℕ) (n : ℕ) → x ≡ Some n → Some n ≡ option_or x y
first-some x y n e = rw e

pub first-none : (x y : Option ℕ) → x ≡ None → y ≡ option_or x y
first-none x y e = rw e

-- ---- the kinds

module _ (version : ℕ) (munit uunit : List ℕ) (created modified : Date) (name : List ℕ) where
  pub library-fault : option_or (cond (calendar (date_bytes created) && calendar (date_bytes modified)) None (Some 9))
      (option_or (cond (positive_real munit && positive_real uunit) None (Some 10)) (text_fault name))
      ≡ given_fault (given_library version munit uunit created modified name)
  unfolding given_fault given_library broken enough_given layout keeps_given enough good_item rule_of
  library-fault = ascending (calendar (date_bytes created)) (calendar (date_bytes modified)) (positive_real munit) (positive_real uunit) (no_zero name)

  -- the version is not looked at
  pub any-version : given_fault (given_library 0 munit uunit created modified name) ≡ given_fault (given_library version munit uunit created modified name)
  unfolding given_fault given_library broken enough_given layout keeps_given enough good_item rule_of
  any-version = refl

module _ (created modified : Date) (name : List ℕ) where
  pub struct-fault : option_or (cond (calendar (date_bytes created) && calendar (date_bytes modified)) None (Some 9)) (text_fault name)
      ≡ given_fault (given_struct created modified name)
  unfolding given_fault given_struct broken enough_given layout keeps_given enough good_item rule_of
  struct-fault = ascending (calendar (date_bytes created)) (calendar (date_bytes modified)) true true (no_zero name)

module _ (number : ℤ) (value : List ℕ) where
  pub owned-fault : (owner : Owner) → text_fault value ≡ given_fault (given_owned owner number value)
  unfolding given_fault given_owned broken enough_given layout keeps_given enough groups good_item good_list meets rule_of
  owned-fault Cell = ascending true true true true (no_zero value)
  owned-fault Object = ascending true true true true (no_zero value)
