-- Records put into a file: good ones in an allowed order, and unknown ones added between them. Definitions only.
use Rattle.std.specs.Prelude.{◌≡◌, true, false, List, [], ◌∷◌, ◌++◌, ℕ, ◌+◌, ◌%◌, ◌≤◌, ◌<◌, length, take, None}
use Rattle.cgx_spec.specs.declared.Context.{Context}
use Rattle.cgx_spec.specs.Numbers.{Bytes}
use Rattle.cgx_spec.specs.Fields.{join}
use Rattle.cgx_spec.specs.Kinds.{kind_of}
use Rattle.cgx_spec.specs.Order.{next}
use Rattle.cgx_spec.specs.Records.{Rec, size, bytes_of, fault_of, Placed}
use Rattle.cgx_spec.specs.Files.{records_of}

-- A record that a file can hold: its size is "even, 4 to 65,534", and its bytes are bytes.
pub record Sized (r : Rec) : Type 0 where
  pub even : length r.body % 2 ≡ 0
  pub small : length r.body ≤ 65530
  pub type-byte : r.type < 256
  pub flags-byte : r.flags < 256
  pub body_bytes : Bytes r.body

-- The records are good one after another from this context on, and the last of them is ENDLIB.
abbrev pub GoodFrom : Context → ℕ → List Rec → Type 0
GoodFrom c at [] = c.ended ≡ true
GoodFrom c at (r ∷ rs) = (c.ended ≡ false) × Sized r × (fault_of c r ≡ None) × GoodFrom (next c at (kind_of r.type)) (at + size r) rs

-- The records with the offsets and contexts that they have one after another.
unfoldable pub place_all : Context → ℕ → List Rec → List Placed
place_all c at [] = []
place_all c at (r ∷ rs) = record { at = at; context = c; rec = r } ∷ place_all (next c at (kind_of r.type)) (at + size r) rs

-- "A record added under demand 3 has a type from 11 to 255, any flags, any body of even length up to 65,530, and its own length as its size."
pub record Extra (u : Rec) : Type 0 where
  pub type-unknown : 11 ≤ u.type
  pub sized : Sized u

-- The second list is the first with any number of extra records before any of its records.
pub data Added : List Rec → List Rec → Type 0 where
  last : {r : Rec} → Added (r ∷ []) (r ∷ [])
  keep : {r : Rec} {rs rs' : List Rec} → Added rs rs' → Added (r ∷ rs) (r ∷ rs')
  extra : {u : Rec} {rs rs' : List Rec} → Extra u → Added rs rs' → Added rs (u ∷ rs')

-- The second file is the first with extra records after its first record, which is LIBRARY, and before its last, which is ENDLIB.
pub data AddedTo (f : List ℕ) : List ℕ → Type 0 where
  added : {r : Rec} {rs rs' : List Rec} → records_of f ≡ r ∷ rs → Added rs rs' → AddedTo f (take 4 f ++ join bytes_of (r ∷ rs'))
