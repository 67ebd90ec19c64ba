-- What the answers of the library are to a C caller: a number, what is filled in lent memory, and the offset that a refusal names. What is not told stays as the caller has it. Definitions only.
use Rattle.std.specs.Prelude.{Bool, cond, List, [], ◌∷◌, ℕ, Float, ℤ, get_or, set, None, Option, Some, Ok, Err, Result}
use Rattle.cgx_spec.specs.Verdicts.{Verdict}
use Rattle.cgx_spec.specs.Verdicts.{accepted as Accepted, refused as Refused}
use Rattle.cgx_spec.specs.declared.FileRefusal.{FileRefusal}
use Rattle.cgx_spec.specs.declared.Refusal.{Refusal}
use Rattle.cgx_spec.specs.declared.Real.{Real}
use Rattle.cgx_spec.specs.declared.Real.TheVariants.{Exact, Inexact}
use Rattle.cgx_format_kinds.specs.declared.ItemList.{ItemList}
use Rattle.cgx_format_kinds.specs.declared.TextSpan.{TextSpan}
use Rattle.cgx_format_kinds.specs.declared.Sides.{Sides}
use Rattle.cgx_format_cursor.specs.declared.Cursor.{Cursor}
use Rattle.cgx_ask_layer_name.specs.declared.NameAnswer.{NameAnswer}
use Rattle.cgx_ask_layer_name.specs.declared.NameAnswer.TheVariants.{NoLayer, OfFile, OfSubstitute}
use Rattle.cgx_c_places.specs.Words.{cursor_words, told_at}
use Rattle.cgx_format_kinds.specs.declared.Point.{Point}

-- ---- what a call tells

-- its number, and the caller's number for an offset;
pub record Said : Type 0 where
  pub number : ℕ
  pub at : ℕ

-- its number, and what it fills;
pub record Filled (A : Type 0) : Type 0 where
  pub number : ℕ
  pub filled : A

-- or all three.
pub record Told (A : Type 0) : Type 0 where
  pub number : ℕ
  pub filled : A
  pub at : ℕ

-- The answers that are no refusals: there is no such thing, show the substitute, no double or no real is equal.
abbrev pub nothing : ℕ
nothing = 257

abbrev pub substitute : ℕ
substitute = 258

abbrev pub inexact : ℕ
inexact = 259

-- ---- the checker and the start of a walk

abbrev pub verdict_told : Verdict → ℕ → Said
verdict_told (Ok _) at = record { number = 0; at = at }
verdict_told (Err r) at = record { number = r.number; at = r.at }

abbrev pub start_told : Result Cursor FileRefusal → List ℕ → ℕ → Told (List ℕ)
start_told (Ok c) place at = record { number = 0; filled = cursor_words c; at = at }
start_told (Err r) place at = record { number = r.number; filled = place; at = r.at }

-- ---- lists and texts of a view: two words each

abbrev pub list_in : List ℕ → ItemList
list_in w = record { first = get_or w 0 0; count = get_or w 1 0 }

abbrev pub span_in : List ℕ → TextSpan
span_in w = record { at = get_or w 0 0; len = get_or w 1 0 }

-- The four longs of a `cgx_box`, and the two of a `cgx_point`.
abbrev pub sides_set : List ℤ → ℤ → ℤ → ℤ → ℤ → List ℤ
sides_set w left bottom right top = set (set (set (set w 0 left) 1 bottom) 2 right) 3 top

abbrev pub point_set : List ℤ → ℤ → ℤ → List ℤ
point_set w x y = set (set w 0 x) 1 y

abbrev pub box_told : Option Sides → List ℤ → Filled (List ℤ)
box_told None sides = record { number = nothing; filled = sides }
box_told (Some s) sides = record { number = 0; filled = sides_set sides s.left s.bottom s.right s.top }

abbrev pub point_told : Option Point → List ℤ → Filled (List ℤ)
point_told None w = record { number = nothing; filled = w }
point_told (Some p) w = record { number = 0; filled = point_set w p.x p.y }

abbrev pub inside_told : Bool → ℕ
inside_told inside = cond inside 0 nothing

-- ---- questions

-- Whether there is a good LAYER.
abbrev pub layer_told : Result (Unit {0}) Refusal → ℕ
layer_told (Ok _) = 0
layer_told (Err r) = r.number

-- The name is a part of the file, or the whole substitute of n bytes.
abbrev pub name_told : NameAnswer → ℕ → List ℕ → Filled (List ℕ)
name_told NoLayer n name = record { number = 16; filled = name }
name_told (OfFile at len) n name = record { number = 0; filled = at ∷ len ∷ [] }
name_told OfSubstitute n name = record { number = substitute; filled = 0 ∷ n ∷ [] }

-- The extent of a cell is told as a box is.
abbrev pub extent_told : Result (Option Sides) Refusal → List ℤ → ℕ → Told (List ℤ)
extent_told (Err r) sides at = record { number = r.number; filled = sides; at = told_at r.at at }
extent_told (Ok o) sides at =
    let t = box_told o sides in
    record { number = t.number; filled = t.filled; at = at }

-- ---- the normal form

abbrev pub length_told : Result ℕ FileRefusal → ℕ → ℕ → Told ℕ
length_told (Ok n) length at = record { number = 0; filled = n; at = at }
length_told (Err r) length at = record { number = r.number; filled = length; at = r.at }

abbrev pub normal_told : Result ℕ Refusal → ℕ → ℕ → Told ℕ
normal_told (Ok n) length at = record { number = 0; filled = n; at = at }
normal_told (Err r) length at = record { number = r.number; filled = length; at = told_at r.at at }

-- ---- reals

abbrev pub double_told : Real → Float → Filled Float
double_told (Exact x) value = record { number = 0; filled = x }
double_told (Inexact negative e m) value = record { number = inexact; filled = value }

abbrev pub real_told : Option ℕ → ℕ → Filled ℕ
real_told (Some w) word = record { number = 0; filled = w }
real_told None word = record { number = inexact; filled = word }
