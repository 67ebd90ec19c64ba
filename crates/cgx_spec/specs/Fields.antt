-- The types of field that 01's table of records is made of: for each its length, its rule, its meaning and its normal form. Definitions only.
use Rattle.std.specs.Prelude.{Bool, true, not, ◌&&◌, ◌||◌, cond, List, [], ◌∷◌, ◌++◌, map, ℕ, ◌*◌, ◌/◌, ◌%◌, ◌-◌, leb, eqb, ℤ, pos, length, take, drop}
use Rattle.std.specs.Int.Signed.{le_z}
use Rattle.cgx_spec.specs.Numbers.{short_of, longs_of}
use Rattle.cgx_spec.specs.Reals.{real_of, positive_real, normal_real}
use Rattle.cgx_spec.specs.Dates.{good_date, date_of}
use Rattle.cgx_spec.specs.Strings.{text_of, same, good_string}

-- What is asked of the longs of a field.
pub data Test : Type 0 where
  any : Test
  -- "cols, rows ≥ 1"
  counts : Test
  -- "left ≤ right, bottom ≤ top"
  ordered : Test
  -- "first = last"
  closed : Test

pub data Field : Type 0 where
  real : Field
  -- a real above 0: a scale or a magnification
  positive : Field
  date : Field
  short : Field
  -- `longs n lo hi t`: from lo to hi groups of n longs each (coordinates, points, boxes), with a test
  longs : ℕ → ℕ → ℕ → Test → Field
  string : Field
  -- "name or nothing"
  optional : Field
  -- a field that the record does not have: of an SREF, where its flag is off
  absent : Field

-- ---- lengths (rule 8)

-- w bytes are from lo to hi units of u bytes.
abbrev pub units : ℕ → ℕ → ℕ → ℕ → Bool
units u lo hi w = eqb (w % u) 0 && leb lo (w / u) && leb (w / u) hi

-- The lengths that a field may have. A string has "a field of even length, at least 2".
unfoldable pub fits : Field → ℕ → Bool
fits real w = eqb w 8
fits positive w = eqb w 8
fits date w = eqb w 8
fits short w = eqb w 2
fits (longs n lo hi t) w = units (4 * n) lo hi w
fits string w = units 2 1 32767 w
fits optional w = units 2 0 32767 w
fits absent w = eqb w 0

-- How many of the bytes left a field takes: where its length is not fixed, it "runs to the end of its record".
unfoldable pub width : Field → ℕ → ℕ
width real left = 8
width positive left = 8
width date left = 8
width short left = 2
width (longs n lo hi t) left = cond (eqb lo hi) (4 * n * lo) left
width string left = left
width optional left = left
width absent left = 0

-- ---- rules (9 to 12)

-- The number in 01's table of refusals that a field's rule has; 0 where a field has no rule but its length.
unfoldable pub rule_of : Field → ℕ
rule_of real = 0
rule_of positive = 10
rule_of date = 9
rule_of short = 0
rule_of (longs n lo hi any) = 0
rule_of (longs n lo hi counts) = 10
rule_of (longs n lo hi ordered) = 10
rule_of (longs n lo hi closed) = 12
rule_of string = 11
rule_of optional = 11
rule_of absent = 0

-- Each number is at least 1.
unfoldable pub ones : List ℤ → Bool
ones [] = true
ones (z ∷ zs) = le_z (pos 1) z && ones zs

-- Each four numbers are a box: left, bottom, right, top.
unfoldable pub in_order : List ℤ → Bool
in_order [] = true
in_order (l ∷ []) = true
in_order (l ∷ b ∷ []) = true
in_order (l ∷ b ∷ r ∷ []) = true
in_order (l ∷ b ∷ r ∷ t ∷ rest) = le_z l r && le_z b t && in_order rest

-- The first point, two longs, is the last: equal longs are equal bytes.
unfoldable pub passes : Test → List ℕ → Bool
passes any b = true
passes counts b = ones (longs_of b)
passes ordered b = in_order (longs_of b)
passes closed b = same (take 8 b) (drop (length b - 8) b)

unfoldable pub good : Field → List ℕ → Bool
good real b = true
good positive b = positive_real b
good date b = good_date b
good short b = true
good (longs n lo hi t) b = passes t b
good string b = good_string b
good optional [] = true
good optional (a ∷ b) = good_string (a ∷ b)
good absent b = true

-- ---- meaning

pub data Value : Type 0 where
  -- the record does not have the field: "an angle of 0 is not a missing angle"
  missing : Value
  -- a real, by its exact value
  exactly : ℤ → Value
  numbers : List ℤ → Value
  text : List ℕ → Value

unfoldable pub value : Field → List ℕ → Value
value real b = exactly (real_of b)
value positive b = exactly (real_of b)
value date b = numbers (date_of b)
value short b = numbers (short_of b ∷ [])
value (longs n lo hi t) b = numbers (longs_of b)
value string b = text (text_of b)
value optional [] = missing
value optional (a ∷ b) = text (text_of (a ∷ b))
value absent b = missing

-- ---- normal form: "each real becomes the normal real equal to it", and no other field changes

unfoldable pub normal : Field → List ℕ → List ℕ
normal real b = normal_real b
normal positive b = normal_real b
normal date b = b
normal short b = b
normal (longs n lo hi t) b = b
normal string b = b
normal optional b = b
normal absent b = b

-- ---- a body cut into its fields

pub record Piece : Type 0 where
  pub field : Field
  pub bytes : List ℕ

-- The fields of a body, one after another. Bytes left over come last, as a field that should be absent: rule 8 is then that every piece fits.
unfoldable pub pieces : List Field → List ℕ → List Piece
pieces [] b = record { field = absent; bytes = b } ∷ []
pieces (f ∷ fs) b = record { field = f; bytes = take (width f (length b)) b } ∷ pieces fs (drop (width f (length b)) b)

module _ {A : Type 0} where
  abbrev pub every : (A → Bool) → List A → Bool
  every p [] = true
  every p (x ∷ xs) = p x && every p xs

  abbrev pub All : (A → Type 0) → List A → Type 0
  All P [] = Unit {0}
  All P (x ∷ xs) = P x × All P xs

  abbrev pub join : (A → List ℕ) → List A → List ℕ
  join f [] = []
  join f (x ∷ xs) = f x ++ join f xs

unfoldable pub lengths_fit : List Piece → Bool
lengths_fit ps = every (λ p. fits p.field (length p.bytes)) ps

-- No field breaks the rule of this number.
unfoldable pub keeps : ℕ → List Piece → Bool
keeps n ps = every (λ p. not (eqb n (rule_of p.field)) || good p.field p.bytes) ps

unfoldable pub values : List Piece → List Value
values ps = map (λ p. value p.field p.bytes) ps

unfoldable pub normal_bytes : List Piece → List ℕ
normal_bytes ps = join (λ p. normal p.field p.bytes) ps
