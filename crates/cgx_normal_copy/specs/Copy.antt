-- One record in normal form: where its reals are, what is stored over them, and what a copy asks for. Definitions only.
use Rattle.std.specs.Prelude.{◌≡◌, Bool, true, false, cond, List, [], ◌++◌, ℕ, ◌+◌, ◌≤◌, length, take, drop}
use Rattle.cgx_spec.specs.declared.Kind.{Kind}
use Rattle.cgx_spec.specs.declared.Kind.TheVariants.{Library, Struct, Cprpty, Property, Layer, Box, Poly, Wire, Text, Sref, Endlib}
use Rattle.cgx_spec.specs.Reals.{normal_real}
use Rattle.cgx_spec.specs.Fields.{lengths_fit}
use Rattle.cgx_spec.specs.Kinds.{angle, magnif}
use Rattle.cgx_spec.specs.Records.{pieces_of}
use Rattle.cgx_spec.specs.Walking.{size_at, rec_at, Held}
use Rattle.cgx_normal_copy.specs.declared.Reals.{Reals}

-- ---- the reals of a body

abbrev pub no_reals : Reals
no_reals = record { skip = 0; first = false; second = false }

-- LIBRARY begins with munit and uunit; SREF has angle and magnif after x and y, each where its flag is set.
unfoldable pub reals_in : Kind → ℕ → Reals
reals_in Library fl = record { skip = 0; first = true; second = true }
reals_in Struct fl = no_reals
reals_in Cprpty fl = no_reals
reals_in Property fl = no_reals
reals_in Layer fl = no_reals
reals_in Box fl = no_reals
reals_in Poly fl = no_reals
reals_in Wire fl = no_reals
reals_in Text fl = no_reals
reals_in Sref fl = record { skip = 8; first = angle fl; second = magnif fl }
reals_in Endlib fl = no_reals

-- The bytes that a real takes, where it is present and where not.
unfoldable pub real_width : Bool → ℕ
real_width present = cond present 8 0

abbrev pub reals_end : Reals → ℕ
reals_end r = r.skip + real_width r.first + real_width r.second

-- The normal real equal to that at the beginning of the bytes, where it is present.
unfoldable pub real_if : Bool → List ℕ → List ℕ
real_if true b = normal_real (take 8 b)
real_if false b = []

-- The normal reals of a body, one after another.
unfoldable pub normal_reals : Reals → List ℕ → List ℕ
normal_reals r b = real_if r.first (drop r.skip b) ++ real_if r.second (drop (r.skip + real_width r.first) b)

-- ---- what a copy asks for

-- The file holds a record of this kind and size, as its first two bytes say, of a body that rule 8 allows; and there is room for it.
pub record Copyable (k : Kind) (f : List ℕ) (at size : ℕ) (out : List ℕ) (to : ℕ) : Type 0 where
  pub held : Held f at size
  pub says : size_at f at ≡ size
  pub fits : lengths_fit (pieces_of k (rec_at f at size)) ≡ true
  pub room : to + size ≤ length out
