-- What the types of a call's parameters say of what it gives: numbers in their range, bytes that are bytes, an item that its field can have. Definitions only.
use Rattle.std.specs.Prelude.{◌≡◌, List, [], ◌∷◌, ℕ, ◌*◌, ◌^◌, ◌<◌, ℤ, length}
use Rattle.cgx_spec.specs.Numbers.{Bytes, InRange}
use Rattle.cgx_spec.specs.Fields.{Test, Field, real, positive, date, short, longs, string, optional, absent}
use Rattle.cgx_format_kinds.specs.declared.Date.{Date}
use Rattle.cgx_format_kinds.specs.declared.Point.{Point}
use Rattle.cgx_format_kinds.specs.declared.Grid.{Grid}
use Rattle.cgx_write_given.specs.Given.{Item, eight, day, small, list, words, nothing, Given, fields_of}

abbrev pub Short : ℤ → Type 0
Short z = InRange (2 ^ 15) z

abbrev pub Long : ℤ → Type 0
Long z = InRange (2 ^ 31) z

abbrev pub Longs : List ℤ → Type 0
Longs [] = Unit {0}
Longs (z ∷ zs) = Long z × Longs zs

pub record IsDate (d : Date) : Type 0 where
  pub year : Short d.year
  pub month : d.month < 256
  pub day : d.day < 256
  pub hour : d.hour < 256
  pub minute : d.minute < 256
  pub second : d.second < 256

pub record IsPoint (p : Point) : Type 0 where
  pub x : Long p.x
  pub y : Long p.y

pub record IsGrid (g : Grid) : Type 0 where
  pub cols : Long g.cols
  pub rows : Long g.rows
  pub across : IsPoint g.across
  pub up : IsPoint g.up

pub data Typed : Field → Item → Type 0 where
  a_real : {b : List ℕ} → Typed real (eight b)
  a_scale : {b : List ℕ} → Typed positive (eight b)
  a_date : {d : Date} → IsDate d → Typed date (day d)
  a_short : {z : ℤ} → Short z → Typed short (small z)
  -- as many longs as the field has, where it has a number of its own
  a_list : {n lo hi : ℕ} {t : Test} {zs : List ℤ} → Longs zs → (lo ≡ hi → length zs ≡ n * lo) → Typed (longs n lo hi t) (list zs)
  a_text : {t : List ℕ} → Bytes t → Typed string (words t)
  a_name : {t : List ℕ} → Bytes t → Typed optional (words t)
  no_name : Typed optional nothing
  not_there : Typed absent nothing

abbrev pub AllTyped : List Field → List Item → Type 0
AllTyped [] [] = Unit {0}
AllTyped [] (i ∷ is) = ⊥
AllTyped (f ∷ fs) [] = ⊥
AllTyped (f ∷ fs) (i ∷ is) = Typed f i × AllTyped fs is

pub record WellTyped (g : Given) : Type 0 where
  pub flags : g.flags < 256
  pub items : AllTyped (fields_of g) g.items

-- What calls one after another give.
abbrev pub AllWell : List Given → Type 0
AllWell [] = Unit {0}
AllWell (g ∷ gs) = WellTyped g × AllWell gs
