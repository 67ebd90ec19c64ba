-- The records of an accepted file from an offset on: the one there, the first known one, the end. Assumes nothing.
use Rattle.std.specs.Prelude.{None, Option, Some}
use mathlib.Core.Path.{◌≡◌, refl, sym, ap, ap₂, ◌∙◌, subst}
use mathlib.Core.List.{List, [], ◌∷◌, ◌++◌}
use Prim.Native.Nat.{ℕ, ◌+◌, ◌*◌, ◌/◌, ◌%◌, ◌-◌, ◌≤◌, ◌<◌}
use native.Mathlib.Nat.{div-add-mod', add-zero}
use native.Mathlib.Omega.{arith}
use lib.ListN.{length, take, drop, get_or, length-append, length-drop}
use lib.Seq.{take_at, drop_at, drop-drop, get_or-drop}
use Rattle.cgx_spec.specs.declared.Kind.{Kind}
use Rattle.cgx_spec.specs.Numbers.{Bytes}
use Rattle.cgx_spec.specs.Fields.{join}
use Rattle.cgx_spec.specs.Kinds.{kind_of}
use Rattle.cgx_spec.specs.declared.Context.{Context}
use Rattle.cgx_spec.specs.Order.{start, next, OrderFacts, facts_of}
use Rattle.cgx_spec.specs.Records.{Rec, size, bytes_of}
use Rattle.cgx_spec.specs.Files.{Accepted, walk_of, records_of, known, if_known}
use Rattle.cgx_spec.specs.Walking.{size_at, rec_at, Held}
use Rattle.cgx_spec.specs.Written.{Sized, place_all}
use Rattle.cgx_spec.proofs.Chain.{may, then, Chain, file-sound, file-places}
use Rattle.cgx_format_headers.proofs.Heads.{held-size}
use Rattle.cgx_format_headers.specs.declared.Header.{Header}
use Rattle.cgx_format_headers.specs.Headers.{header_of}
use Rattle.cgx_format_headers.proofs.HeaderLaws.{size-says, kind-says, flags-say}
use Rattle.cgx_format_headers.specs.declared.KnownRecord.{KnownRecord}
use Rattle.cgx_read_sequence.specs.Sequence.{Kept, AllKept, Rest, if_placed, known_places, First, Last, NextIn}

length-of : (r : Rec) → length (bytes_of r) ≡ size r
unfolding bytes_of
length-of r = omega arith

-- ---- the record at an offset

module _ (f : List ℕ) (at : ℕ) (r : Rec) (bs : List ℕ) (e : drop at f ≡ bytes_of r ++ bs) (s : Sized r) where
  byte : (i : ℕ) → get_or f (at + i) 0 ≡ get_or (bytes_of r ++ bs) i 0
  byte i = sym (get_or-drop at f i 0) ∙ ap (λ (l : List ℕ). get_or l i 0) e

  says : size_at f at ≡ size r
  unfolding bytes_of
  says =
      let b₀ : get_or f at 0 ≡ size r / 256 = ap (λ (k : ℕ). get_or f k 0) (sym (add-zero at)) ∙ byte 0 in
      let b₁ : get_or f (at + 1) 0 ≡ size r % 256 = byte 1 in
      ap₂ (λ (x y : ℕ). x * 256 + y) b₀ b₁ ∙ div-add-mod' (size r) 256

  type-is : get_or f (at + 2) 0 ≡ r.type
  unfolding bytes_of
  type-is = byte 2

  reach : length f - at ≡ size r + length bs
  reach = sym (length-drop at f) ∙ ap length e ∙ length-append (bytes_of r) bs ∙ ap (λ (n : ℕ). n + length bs) (length-of r)

  held : Held f at (size r)
  held =
      let l = reach in
      let v = s.even in
      let m = s.small in
      record { least = omega arith; most = omega arith; even = omega arith; inside = omega arith }

  rest-is : drop (at + size r) f ≡ bs
  rest-is = sym (drop-drop (size r) at f) ∙ ap (drop (size r)) e ∙ drop_at (bytes_of r) bs (size r) (length-of r)

  body_is : drop (at + 4) f ≡ r.body ++ bs
  unfolding bytes_of
  body_is = sym (drop-drop 4 at f) ∙ ap (drop 4) e

  rec-is : rec_at f at (size r) ≡ r
  unfolding rec_at bytes_of
  rec-is =
      let n : size r - 4 ≡ length r.body = omega arith in
      let b : take (size r - 4) (drop (at + 4) f) ≡ r.body = ap₂ take n body_is ∙ take_at r.body bs (length r.body) refl in
      λ i. record { type = type-is i; flags = byte 3 i; body = b i }

-- ---- the records of an accepted file

chain-kept : (rs : List Rec) (s : OrderFacts) → Chain s rs → AllKept rs
chain-kept [] s c = tt
chain-kept (r ∷ rs) s c =
    let o = kind_of r.type in (c.1, record { here = may s o; kept = c.2 }, chain-kept rs (then s o) c.3)

-- all of them
pub first_rest : (f : List ℕ) → Bytes f → Accepted f → Rest f 4 (records_of f)
first_rest f h a =
    let e = ap length (file-sound f h a).0 in
    record { bytes = ap (drop 4) (file-sound f h a).0; kept = chain-kept (records_of f) (facts_of start) (file-sound f h a).1; inside = omega arith }

-- and with their offsets and contexts, those of the walk
pub first-places : (f : List ℕ) → Bytes f → Accepted f → known_places (walk_of f).records ≡ known_places (place_all start 4 (records_of f))
first-places f h a = ap known_places (file-places f h a)

-- ---- the record at an offset before the end

pub record Turn (f : List ℕ) (at n : ℕ) (rs : List Rec) : Type 0 where
  pub more : List Rec
  pub split : rs ≡ rec_at f at n ∷ more
  pub held_in : Held f at n
  pub kept : Kept (kind_of (get_or f (at + 2) 0)) (rec_at f at n)
  pub rest : Rest f (at + n) more

pub turn : (f : List ℕ) (at n : ℕ) (rs : List Rec) → Rest f at rs → at < length f → n ≡ size_at f at → Turn f at n rs
turn f at n [] h l e = absurd (let z = ap length h.bytes in omega (arith, length-drop at f))
turn f at n (r ∷ rs) h l e =
    subst (λ (m : ℕ). Turn f at m (r ∷ rs)) (sym (e ∙ says f at r (join bytes_of rs) h.bytes h.kept.0)) turned
  where
    turned : Turn f at (size r) (r ∷ rs)
    turned =
        let bs = join bytes_of rs in
        let s = h.kept.0 in
        let i = rec-is f at r bs h.bytes s in
        let t = type-is f at r bs h.bytes s in
        let g = held f at r bs h.bytes s in
        record {
          more = rs;
          split = ap (λ (x : Rec). x ∷ rs) (sym i);
          held_in = g;
          kept = subst (λ (x : Rec). Kept (kind_of (get_or f (at + 2) 0)) x) (sym i) (subst (λ (x : ℕ). Kept (kind_of x) r) (sym t) h.kept.1);
          rest = record { bytes = rest-is f at r bs h.bytes s; kept = h.kept.2; inside = g.inside };
        }

pub enough : (f : List ℕ) (at : ℕ) (rs : List Rec) → Rest f at rs → at < length f → at + 4 ≤ length f
enough f at rs h l =
    let t = turn f at (size_at f at) rs h l refl in
    let g = t.held_in in
    let a = g.least in
    let i = g.inside in
    omega arith

none_left : (f : List ℕ) (at : ℕ) (rs : List Rec) → Rest f at rs → length f ≤ at → rs ≡ []
none_left f at [] h l = refl
none_left f at (r ∷ rs) h l =
    absurd (let z : length (drop at f) ≡ size r + length (join bytes_of rs) = ap length h.bytes ∙ length-append (bytes_of r) (join bytes_of rs) ∙ ap (λ (n : ℕ). n + length (join bytes_of rs)) (length-of r) in omega (arith, length-drop at f))

-- ---- the loop over unknown records

-- the same known records are left
pub record Passed (f : List ℕ) (from at : ℕ) (rs : List Rec) : Type 0 where
  pub more : List Rec
  pub same : known rs ≡ known more
  pub places : (c : Context) → known_places (place_all c from rs) ≡ known_places (place_all c at more)
  pub rest : Rest f at more

abbrev pub Passes : List ℕ → ℕ → ℕ → Type 0
Passes f from at = (rs : List Rec) → Rest f from rs → Passed f from at rs

pub passes_none : (f : List ℕ) (from : ℕ) → Passes f from from
passes_none f from = λ rs h. record { more = rs; same = refl; places = λ c. refl; rest = h }

pub passes-all : (f : List ℕ) (from at : ℕ) → Passes f from at → length f ≤ at → NextIn f from None
unfolding NextIn known known_places place_all
passes-all f from at p l =
    λ rs h.
    let m = p rs h in
    let e = none_left f at m.more m.rest l in
    record { sequence = m.same ∙ ap known e; places = λ c. m.places c ∙ ap (λ (x : List Rec). known_places (place_all c at x)) e }

module _ (f : List ℕ) (from at : ℕ) (i : from ≤ at) (p : Passes f from at) (l : at < length f) {h : Header} (e : h ≡ header_of f at) where
  pub here : (rs : List Rec) → Rest f from rs → Held f at h.size
  here rs g = (turn f at h.size (p rs g).more (p rs g).rest l (size-says f at e)).held_in

  -- the record, and those after it, with their offsets and contexts
  placed_on : (o : Option Kind) → kind_of (get_or f (at + 2) 0) ≡ o → (rs : List Rec) (g : Rest f from rs) (c : Context) → let m = (turn f at h.size (p rs g).more (p rs g).rest l (size-says f at e)).more in known_places (place_all c from rs) ≡ if_placed o (record { at = at; context = c; rec = rec_at f at h.size }) (known_places (place_all (next c at o) (at + h.size) m))
  unfolding known_places place_all rec_at
  placed_on o q rs g c =
      let t = turn f at h.size (p rs g).more (p rs g).rest l (size-says f at e) in
      let r = rec_at f at h.size in
      (p rs g).places c ∙ ap (λ (x : List Rec). known_places (place_all c at x)) t.split
      ∙ ap (λ (x : Option Kind). if_placed x (record { at = at; context = c; rec = r }) (known_places (place_all (next c at x) (at + size r) t.more))) q
      ∙ ap (λ (n : ℕ). if_placed o (record { at = at; context = c; rec = r }) (known_places (place_all (next c at o) (at + n) t.more))) (held-size f at t.held_in)

  pub passes-unknown : h.kind ≡ None → Passes f from (at + h.size)
  unfolding known rec_at
  passes-unknown q =
      λ rs g.
      let t = turn f at h.size (p rs g).more (p rs g).rest l (size-says f at e) in
      let o : kind_of (get_or f (at + 2) 0) ≡ None = sym (kind-says f at e) ∙ q in
      record { more = t.more; same = (p rs g).same ∙ ap known t.split ∙ ap (λ (x : Option Kind). if_known x (rec_at f at h.size) (known t.more)) o; places = placed_on None o rs g; rest = t.rest }

  pub passes-known : {k : Kind} → h.kind ≡ Some k → NextIn f from (Some (record { at = at; size = h.size; kind = k; flags = h.flags }))
  unfolding NextIn known rec_at
  passes-known {k} q =
      λ rs g.
      let t = turn f at h.size (p rs g).more (p rs g).rest l (size-says f at e) in
      let o : kind_of (get_or f (at + 2) 0) ≡ Some k = sym (kind-says f at e) ∙ q in
      record {
        later = i;
        held = t.held_in;
        says = sym (size-says f at e);
        kind-is = o;
        flags-are = flags-say f at e;
        kept = subst (λ (x : Option Kind). Kept x (rec_at f at h.size)) o t.kept;
        more = t.more;
        sequence = (p rs g).same ∙ ap known t.split ∙ ap (λ (x : Option Kind). if_known x (rec_at f at h.size) (known t.more)) o;
        places = placed_on (Some k) o rs g;
        rest = t.rest;
      }

-- ---- for callers

pub found_first : (f : List ℕ) (from : ℕ) {r : Option KnownRecord} {k : KnownRecord} → NextIn f from r → r ≡ Some k → (rs : List Rec) → Rest f from rs → First f from k rs
unfolding NextIn
found_first f from j e = subst (NextIn f from) e j

pub found-end : (f : List ℕ) (from : ℕ) {r : Option KnownRecord} → NextIn f from r → r ≡ None → (rs : List Rec) → Rest f from rs → Last from rs
unfolding NextIn
found-end f from j e = subst (NextIn f from) e j
