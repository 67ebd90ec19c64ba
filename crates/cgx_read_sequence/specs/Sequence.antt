-- The rest of an accepted file from an offset on, and the next known record of it. Definitions only.
use Rattle.std.specs.Prelude.{Bool, List, [], ◌∷◌, ◌≡◌, ℕ, ◌+◌, ◌≤◌, length, drop, get_or, None, Option, Some}
use Rattle.cgx_spec.specs.declared.Kind.{Kind}
use Rattle.cgx_spec.specs.declared.Context.{Context}
use Rattle.cgx_spec.specs.Fields.{join}
use Rattle.cgx_spec.specs.Kinds.{kind_of}
use Rattle.cgx_spec.specs.Order.{next}
use Rattle.cgx_spec.specs.Records.{Rec, bytes_of, broken, rules, Placed}
use Rattle.cgx_spec.specs.Files.{known}
use Rattle.cgx_spec.specs.Walking.{size_at, rec_at, Held}
use Rattle.cgx_spec.specs.Written.{Sized, place_all}
use Rattle.cgx_format_headers.specs.declared.KnownRecord.{KnownRecord}

-- The record breaks no rule where it is.
pub record Kept (o : Option Kind) (r : Rec) : Type 0 where
  pub here : Bool
  pub kept : broken (rules here o r) ≡ None

abbrev pub AllKept : List Rec → Type 0
AllKept [] = Unit {0}
AllKept (r ∷ rs) = Sized r × Kept (kind_of r.type) r × AllKept rs

-- From the offset on the file is these records, and each is a good one.
pub record Rest (f : List ℕ) (at : ℕ) (rs : List Rec) : Type 0 where
  pub bytes : drop at f ≡ join bytes_of rs
  pub kept : AllKept rs
  pub inside : at ≤ length f

pub record Along (f : List ℕ) (at : ℕ) : Type 0 where
  pub records : List Rec
  pub rest : Rest f at records

-- ---- the known records of a file with their offsets and contexts

abbrev pub if_placed : Option Kind → Placed → List Placed → List Placed
if_placed None p l = l
if_placed (Some k) p l = p ∷ l

unfoldable pub known_places : List Placed → List Placed
known_places [] = []
known_places (p ∷ ps) = if_placed (kind_of p.rec.type) p (known_places ps)

-- ---- the next one

-- The first known record of some, and what is left after it, with and without offsets and contexts.
pub record First (f : List ℕ) (from : ℕ) (k : KnownRecord) (rs : List Rec) : Type 0 where
  pub later : from ≤ k.at
  pub held : Held f k.at k.size
  pub says : size_at f k.at ≡ k.size
  pub kind-is : kind_of (get_or f (k.at + 2) 0) ≡ Some k.kind
  pub flags-are : k.flags ≡ get_or f (k.at + 3) 0
  pub kept : Kept (Some k.kind) (rec_at f k.at k.size)
  pub more : List Rec
  pub sequence : known rs ≡ record { kind = k.kind; rec = rec_at f k.at k.size } ∷ known more
  pub places : (c : Context) → known_places (place_all c from rs) ≡ record { at = k.at; context = c; rec = rec_at f k.at k.size } ∷ known_places (place_all (next c k.at (Some k.kind)) (k.at + k.size) more)
  pub rest : Rest f (k.at + k.size) more

-- None of them is known.
pub record Last (from : ℕ) (rs : List Rec) : Type 0 where
  pub sequence : known rs ≡ []
  pub places : (c : Context) → known_places (place_all c from rs) ≡ []

unfoldable pub NextIn : List ℕ → ℕ → Option KnownRecord → Type 0
NextIn f from (Some k) = (rs : List Rec) → Rest f from rs → First f from k rs
NextIn f from None = (rs : List Rec) → Rest f from rs → Last from rs
