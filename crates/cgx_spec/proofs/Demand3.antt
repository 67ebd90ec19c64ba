-- Demand 3, of the definitions.
use Rattle.std.specs.Prelude.{None, Option, Some, slice_get}
use mathlib.Core.Path.{◌≡◌, refl, sym, ap, ap₂, ◌∙◌, subst}
use mathlib.Core.Logic.{◌↔◌}
use mathlib.Core.Bool.{Bool, true, false, ◌&&◌, cond}
use mathlib.Core.List.{List, [], ◌∷◌, ◌++◌, map, head-eq_of_cons-eq, tail-eq_of_cons-eq}
use Prim.Native.Nat.{ℕ, zero, suc, ◌≤◌, ◌<◌}
use native.Mathlib.Omega.{arith}
use lib.ListN.{length, take}
use Rattle.cgx_spec.specs.declared.Kind.{Kind}
use Rattle.cgx_spec.specs.declared.Kind.TheVariants.{Library, Struct, Cprpty, Property, Layer, Box, Poly, Wire, Text, Sref, Endlib}
use Rattle.cgx_spec.specs.Numbers.{Bytes}
use Rattle.cgx_spec.specs.Fields.{join, normal_bytes}
use Rattle.cgx_spec.specs.Kinds.{kind_of, layout}
use Rattle.cgx_spec.specs.Order.{start, OrderFacts, facts_of}
use Rattle.cgx_spec.specs.Records.{Rec, bytes_of, pieces_of, normal_of, broken, rules}
use Rattle.cgx_spec.specs.Files.{header, Accepted, records_of, Known, if_known, known, sequence, meanings, SameMeaning, normals, normal_form}
use Rattle.cgx_spec.specs.Written.{Sized, GoodFrom, Added, last, keep, extra, AddedTo, added}
use Rattle.cgx_spec.specs.Demands.{Demand3}
use Rattle.cgx_spec.proofs.Lists.{Bytes-append, Bytes-take}
use Rattle.cgx_spec.proofs.Pieces.{Fit, length-normal_bytes, Bytes-normal_bytes}
use Rattle.cgx_spec.proofs.Normal.{Sound, sound-fit, keeps-rules, meaning-normal, rules-normal, flags-byte, known_same}
use Rattle.cgx_spec.proofs.Chain.{may, then, Chain, good-chain, Bytes-join, file-complete, file-sound}

abbrev first : OrderFacts
first = facts_of start

-- ---- the known records of a good chain

pub record Good (n : Known) : Type 0 where
  pub kind-is : kind_of n.rec.type ≡ Some n.kind
  pub flags-small : n.rec.flags < 256
  pub sound : Sound (pieces_of n.kind n.rec)

abbrev pub AllGood : List Known → Type 0
AllGood [] = Unit {0}
AllGood (n ∷ ns) = Good n × AllGood ns

pub chain-good : (rs : List Rec) (s : OrderFacts) → Chain s rs → AllGood (known rs)
unfolding known
chain-good [] s c = tt
chain-good (r ∷ rs) s c = go (kind_of r.type) refl c.2 (chain-good rs (then s (kind_of r.type)) c.3)
  where
    go : (o : Option Kind) → kind_of r.type ≡ o → broken (rules (may s o) o r) ≡ None → AllGood (known rs) → AllGood (if_known o r (known rs))
    go None e b h = h
    go (Some k) e b h = (record { kind-is = e; flags-small = c.1.flags-byte; sound = keeps-rules (may s (Some k)) k r c.1.body_bytes b }, h)

abbrev normal_known : Known → Known
normal_known n = record { kind = n.kind; rec = normal_of n.kind n.rec }

-- ---- the normal form is accepted

sized-normal : (k : Kind) (r : Rec) → Fit (pieces_of k r) → Sized r → Sized (normal_of k r)
unfolding normal_of pieces_of
sized-normal k r h z =
    let l : length (normal_bytes (pieces_of k r)) ≡ length r.body = length-normal_bytes (layout k r.flags) r.body h in
    record {
      even = rw l z.even;
      small = rw l z.small;
      type-byte = z.type-byte;
      flags-byte = flags-byte k r.flags z.flags-byte;
      body_bytes = Bytes-normal_bytes (pieces_of k r) h;
    }

chain-normal : (rs : List Rec) (s : OrderFacts) → Chain s rs → Chain s (normals (known rs))
unfolding known
chain-normal [] s c = c
chain-normal (r ∷ rs) s c = go (kind_of r.type) refl c.2 (chain-normal rs (then s (kind_of r.type)) c.3)
  where
    go : (o : Option Kind) → kind_of r.type ≡ o → broken (rules (may s o) o r) ≡ None → Chain (then s o) (normals (known rs)) → Chain s (normals (if_known o r (known rs)))
    go None e b h = unfold then in h
    go (Some k) e b h =
        let e' : kind_of (normal_of k r).type ≡ Some k = unfold normal_of in e in
        let f = sound-fit (pieces_of k r) (keeps-rules (may s (Some k)) k r c.1.body_bytes b) in (
          c.0,
          sized-normal k r f c.1,
          subst (λ (o : Option Kind). broken (rules (may s o) o (normal_of k r)) ≡ None) (sym e') (ap broken (rules-normal k r f (may s (Some k))) ∙ b),
          subst (λ (o : Option Kind). Chain (then s o) (normals (known rs))) (sym e') h,
        )

-- ---- and means the same

known-normals : (ns : List Known) → AllGood ns → known (normals ns) ≡ map normal_known ns
unfolding known normal_of
known-normals [] h = refl
known-normals (n ∷ ns) h = rw (h.0.kind-is, known-normals ns h.1)

meanings-normal : (ns : List Known) → AllGood ns → meanings (known (normals ns)) ≡ meanings ns
meanings-normal ns h = ap meanings (known-normals ns h) ∙ each ns h
  where
    each : (ns : List Known) → AllGood ns → meanings (map normal_known ns) ≡ meanings ns
    each [] h = refl
    each (n ∷ ns) h = ap₂ ◌∷◌ (meaning-normal n.kind n.rec (sound-fit (pieces_of n.kind n.rec) h.0.sound) h.0.flags-small) (each ns h.1)

normals-same : (ms ns : List Known) → AllGood ms → AllGood ns → meanings ms ≡ meanings ns → normals ms ≡ normals ns
normals-same [] [] hm hn e = refl
normals-same [] (n ∷ ns) hm hn e = cc
normals-same (m ∷ ms) [] hm hn e = cc
normals-same (m ∷ ms) (n ∷ ns) hm hn e =
    ap₂ ◌∷◌
    (known_same m.kind n.kind m.rec n.rec hm.0.kind-is hn.0.kind-is hm.0.sound hn.0.sound (head-eq_of_cons-eq e))
    (normals-same ms ns hm.1 hn.1 (tail-eq_of_cons-eq e))

-- ---- demand 3

-- the normal form of an accepted file is the header and the normal records
normal_form-is : (f : List ℕ) → Bytes f → Accepted f → normal_form f ≡ header ++ join bytes_of (normals (sequence f))
unfolding normal_form
normal_form-is f h a = ap (λ (t : List ℕ). take 4 t ++ join bytes_of (normals (sequence f))) (file-sound f h a).0

normal-file : (f : List ℕ) → Bytes f → Accepted f → Accepted (normal_form f) × (records_of (normal_form f) ≡ normals (sequence f))
unfolding sequence
normal-file f h a = rw (normal_form-is f h a) (file-complete (normals (known (records_of f))) (chain-normal (records_of f) first (file-sound f h a).1))

sequence-good : (f : List ℕ) → Bytes f → Accepted f → AllGood (sequence f)
unfolding sequence
sequence-good f h a = chain-good (records_of f) first (file-sound f h a).1

normal_form-bytes : (f : List ℕ) → Bytes f → Accepted f → Bytes (normal_form f)
unfolding normal_form sequence
normal_form-bytes f h a =
    let ns = normals (known (records_of f)) in
    Bytes-append (take 4 f) (join bytes_of ns) (Bytes-take 4 f h) (Bytes-join first ns (chain-normal (records_of f) first (file-sound f h a).1))

-- The normal form of an accepted file is itself accepted,
pub normal_form-accepted : (f : List ℕ) → Bytes f → Accepted f → Accepted (normal_form f)
normal_form-accepted f h a = (normal-file f h a).0

-- and of the same meaning.
pub normal_form-means : (f : List ℕ) → Bytes f → Accepted f → SameMeaning (normal_form f) f
unfolding sequence
normal_form-means f h a =
    ap (λ (rs : List Rec). meanings (known rs)) (normal-file f h a).1 ∙ meanings-normal (sequence f) (sequence-good f h a)

-- Two accepted files have the same meaning exactly when their normal forms are equal.
pub normal_form-unique : (f g : List ℕ) → Bytes f → Bytes g → Accepted f → Accepted g → SameMeaning f g ↔ (normal_form f ≡ normal_form g)
normal_form-unique f g hf hg af ag = (
  (λ e. normal_form-is f hf af ∙ ap (λ (rs : List Rec). header ++ join bytes_of rs) (normals-same (sequence f) (sequence g) (sequence-good f hf af) (sequence-good g hg ag) e) ∙ sym (normal_form-is g hg ag)),
  (λ e. sym (normal_form-means f hf af) ∙ ap (λ (x : List ℕ). meanings (sequence x)) e ∙ normal_form-means g hg ag),
)

-- The normal form of a normal form is that same form.
pub normal_form-again : (f : List ℕ) → Bytes f → Accepted f → normal_form (normal_form f) ≡ normal_form f
normal_form-again f h a =
    (normal_form-unique (normal_form f) f (normal_form-bytes f h a) h (normal_form-accepted f h a) a).0 (normal_form-means f h a)

-- ---- unknown records added

beyond : (l : List Kind) (t : ℕ) → length l ≤ t → slice_get l t ≡ None
beyond [] t h = refl
beyond (k ∷ l) zero h = absurd (omega arith)
beyond (k ∷ l) (suc t) h = beyond l t (omega arith)

pub unknown-kind : (t : ℕ) → 11 ≤ t → kind_of t ≡ None
unfolding kind_of
unknown-kind t h = beyond (Library ∷ Struct ∷ Cprpty ∷ Property ∷ Layer ∷ Box ∷ Poly ∷ Wire ∷ Text ∷ Sref ∷ Endlib ∷ []) t h

known-added : {rs rs' : List Rec} → Added rs rs' → known rs' ≡ known rs
unfolding known
known-added last = refl
known-added (keep {r} a) = ap (if_known (kind_of r.type) r) (known-added a)
known-added (extra {u} {rs} {rs'} x a) = ap (λ (o : Option Kind). if_known o u (known rs')) (unknown-kind u.type x.type-unknown) ∙ known-added a

not-ended : {rs rs' : List Rec} (s : OrderFacts) → Added rs rs' → Chain s rs → s.ended ≡ false
not-ended s last c = c.0
not-ended s (keep a) c = c.0
not-ended s (extra x a) c = not-ended s a c

library-stays : (s : OrderFacts) (o : Option Kind) → s.library ≡ true → (then s o).library ≡ true
unfolding then
library-stays s None h = h
library-stays s (Some Library) h = refl
library-stays s (Some Struct) h = h
library-stays s (Some Cprpty) h = h
library-stays s (Some Property) h = h
library-stays s (Some Layer) h = h
library-stays s (Some Box) h = h
library-stays s (Some Poly) h = h
library-stays s (Some Wire) h = h
library-stays s (Some Text) h = h
library-stays s (Some Sref) h = h
library-stays s (Some Endlib) h = h

-- the first record of an accepted file is LIBRARY
library-first : (o : Option Kind) (r : Rec) → broken (rules (may first o) o r) ≡ None → (then first o).library ≡ true
unfolding then rules broken start may
library-first None r b = cc
library-first (Some Library) r b = refl
library-first (Some Struct) r b = cc
library-first (Some Cprpty) r b = cc
library-first (Some Property) r b = cc
library-first (Some Layer) r b = cc
library-first (Some Box) r b = cc
library-first (Some Poly) r b = cc
library-first (Some Wire) r b = cc
library-first (Some Text) r b = cc
library-first (Some Sref) r b = cc
library-first (Some Endlib) r b = cc

chain-added : {rs rs' : List Rec} (s : OrderFacts) → Added rs rs' → s.library ≡ true → Chain s rs → Chain s rs'
unfolding then
chain-added s last l c = c
chain-added s (keep {r} a) l c = (c.0, c.1, c.2, chain-added (then s (kind_of r.type)) a (library-stays s (kind_of r.type) l) c.3)
chain-added s (extra {u} {rs} {rs'} x a) l c =
    let e : kind_of u.type ≡ None = unknown-kind u.type x.type-unknown in (
      not-ended s a c,
      x.sized,
      subst (λ (o : Option Kind). broken (rules (may s o) o u) ≡ None) (sym e) (unfold rules broken may in (ap (λ (b : Bool). cond (b && true) None (Some 6)) l)),
      subst (λ (o : Option Kind). Chain (then s o) rs') (sym e) (chain-added s a l c),
    )

-- To any accepted file add complete records of unknown types between two records, after LIBRARY and before ENDLIB: the file is still accepted, and its normal form is the same.
pub added-same : (f g : List ℕ) → Bytes f → Accepted f → AddedTo f g → Accepted g × (normal_form g ≡ normal_form f)
unfolding normal_form sequence
added-same f g h a (added {r} {rs} {rs'} e x) =
    let s = file-sound f h a in
    let t : take 4 f ≡ header = ap (take 4) s.0 in
    let c : Chain first (r ∷ rs) = subst (Chain first) e s.1 in
    let c' = chain-added (then first (kind_of r.type)) x (library-first (kind_of r.type) r c.2) c.3 in
    let w = file-complete (r ∷ rs') (c.0, c.1, c.2, c') in
    let k : known (records_of (header ++ join bytes_of (r ∷ rs'))) ≡ known (records_of f) = ap known w.1 ∙ known-added (keep x) ∙ ap known (sym e) in
    rw t (w.0, ap (λ (ns : List Known). header ++ join bytes_of (normals ns)) k)

-- good records, written in normal form, are read back with the same meaning
pub read_back : (rs : List Rec) → GoodFrom start 4 rs → let f = header ++ join bytes_of (normals (known rs)) in Accepted f × (records_of f ≡ normals (known rs)) × (meanings (sequence f) ≡ meanings (known rs))
unfolding sequence
read_back rs h =
    let c = good-chain rs start 4 h in
    let w = file-complete (normals (known rs)) (chain-normal rs first c) in
    (w.0, w.1, ap (λ (l : List Rec). meanings (known l)) w.1 ∙ meanings-normal (known rs) (chain-good rs first c))

pub demand3 : Demand3
demand3 = record { form-accepted = normal_form-accepted; form-means = normal_form-means; form-unique = normal_form-unique; form-again = normal_form-again; form-added = added-same }
