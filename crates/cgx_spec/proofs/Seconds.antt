-- Req 02: the second of a date decides by itself, in a date, in a record and in a whole file.
use Rattle.std.specs.Prelude.{None, Option, Some}
use mathlib.Core.Path.{◌≡◌, refl, sym, ap, ap₂, ◌∙◌, subst}
use mathlib.Core.Bool.{Bool, true, false, ◌&&◌, cond}
use mathlib.Core.List.{List, [], ◌∷◌, ◌++◌, append_assoc}
use Prim.Native.Nat.{ℕ, zero, suc, ◌+◌, ◌≤◌, ◌<◌}
use native.Mathlib.Nat.{zero-add, add-zero, suc-add}
use native.Mathlib.Omega.{arith}
use lib.Dec.{T, leb, eqb, le→leb, eqb→eq}
use lib.ListN.{length, take, drop, get_or, set, length-append, length-drop, length-set}
use lib.Seq.{get_or-set_same, get_or-set_other, set-append_left, take-set-le, drop-set-lt, take-set-lt, drop-set-add}
use Rattle.cgx_spec.specs.declared.Kind.{Kind}
use Rattle.cgx_spec.specs.declared.Kind.TheVariants.{Library, Struct, Cprpty, Property, Layer, Box, Poly, Wire, Text, Sref, Endlib}
use Rattle.cgx_spec.specs.declared.Context.{Context}
use Rattle.cgx_spec.specs.Verdicts.{accepted, refused}
use Rattle.cgx_spec.specs.Numbers.{Bytes}
use Rattle.cgx_spec.specs.Dates.{within, last_second, calendar, good_date}
use Rattle.cgx_spec.specs.Fields.{Field, date, fits, width, rule_of, good, Piece, pieces, All, join, lengths_fit, keeps}
use Rattle.cgx_spec.specs.Kinds.{kind_of, layout}
use Rattle.cgx_spec.specs.Order.{start, OrderFacts, facts_of}
use Rattle.cgx_spec.specs.Records.{Rec, size, bytes_of, pieces_of, rule, broken, rules, context_after}
use Rattle.cgx_spec.specs.Files.{stop, settle, judge, finish, step, cut, walk, header, opening, begin, walk_of, verdict_of, Accepted, records_of}
use Rattle.cgx_spec.specs.Written.{Sized}
use Rattle.cgx_spec.specs.Restated.{dates_at}
use Rattle.cgx_spec.specs.Demands.{Seconds}
use Rattle.cgx_spec.proofs.Lists.{T→true, true→T, every-cons, and-true}
use Rattle.cgx_spec.proofs.Cuts.{eight-room}
use Rattle.cgx_spec.proofs.Normal.{kept, all-kept}
use Rattle.cgx_spec.proofs.Chain.{may, then, may-is, fault, Chain, placed, cut_of, step_of, after_is, walk-complete, length-join, file-sound}
use Rattle.cgx_spec.proofs.Specimens.{leap-seconds}

-- ---- a date

-- one test among others that hold
decides : (a b c x : Bool) → T (a && b && c) → (a && x && c) ≡ x
decides true true true x t = and-true x
decides true true false x t = absurd t
decides true false c x t = absurd t
decides false b c x t = absurd t

date-second : (b : List ℕ) → length b ≡ 8 → good_date b ≡ true → (s : ℕ) → good_date (set b 6 s) ≡ leb s 60
unfolding good_date calendar
date-second b l g s =
    let o : (j : ℕ) → (j ≡ 6 → ⊥) → get_or (set b 6 s) j 0 ≡ get_or b j 0 = λ j n. get_or-set_other b 6 j s 0 n in
    let other : Bool = within 1 12 (get_or b 2 0) && within 1 31 (get_or b 3 0) && within 0 23 (get_or b 4 0) && within 0 59 (get_or b 5 0) in
    rw (o 2 (λ e. omega arith))
    (rw (o 3 (λ e. omega arith))
    (rw (o 4 (λ e. omega arith))
    (rw (o 5 (λ e. omega arith))
    (rw (get_or-set_same b 6 s 0 (omega arith))
    (rw (o 7 (λ e. omega arith))
    (decides other (within 0 last_second (get_or b 6 0)) (eqb (get_or b 7 0) 0) (within 0 last_second s) (true→T g) ∙ ap (λ (z : Bool). z && leb s 60) {x = leb 0 s} (T→true (le→leb 0 s (omega arith)))))))))

-- ---- a body

-- the byte i of a body with these fields is the second of a date
data SecondAt : List Field → ℕ → Type 0 where
  this : {fs : List Field} → SecondAt (date ∷ fs) 6
  after : {f : Field} {fs : List Field} {i : ℕ} (w : ℕ) → ((n : ℕ) → width f n ≡ w) → SecondAt fs i → SecondAt (f ∷ fs) (w + i)

-- what a body's fields come to with s as one of its seconds
record Stamped (b : List ℕ) (i s : ℕ) (ps qs : List Piece) : Type 0 where
  inside : T (lengths_fit ps) → i < length b
  fit : lengths_fit qs ≡ lengths_fit ps
  others : (n : ℕ) → eqb n 9 ≡ false → keeps n qs ≡ keeps n ps
  dates : T (lengths_fit ps) → T (keeps 9 ps) → keeps 9 qs ≡ leb s 60

stamped : {fs : List Field} {i : ℕ} → SecondAt fs i → (b : List ℕ) (s : ℕ) → Stamped b i s (pieces fs b) (pieces fs (set b i s))
unfolding pieces lengths_fit keeps width fits rule_of good
stamped (this {fs = fs}) b s =
    rw (take-set-lt 8 b 6 s (omega arith))
    (rw (drop-set-lt 8 b 6 s (omega arith))
    (record {
      inside = λ t. let l = eight-room 8 b (fitting t).0 in omega arith;
      fit = ap (λ (n : ℕ). eqb n 8 && lengths_fit rest) (length-set (take 8 b) 6 s);
      others = λ n e. rw e refl;
      dates =
          λ t k.
          let h = every-cons (kept 9) p rest k in
          ap₂ ◌&&◌ (date-second (take 8 b) (eqb→eq (length (take 8 b)) 8 (fitting t).0) (T→true h.0) s) (T→true h.1) ∙ and-true (leb s 60);
    }))
  where
    p : Piece
    p = record { field = date; bytes = take 8 b }

    rest : List Piece
    rest = pieces fs (drop 8 b)

    fitting : T (lengths_fit (p ∷ rest)) → T (eqb (length (take 8 b)) 8) × T (lengths_fit rest)
    fitting t = every-cons (λ q. fits q.field (length q.bytes)) p rest t
stamped (after {f = f} {fs = fs} {i = i} w e at) b s =
    let ih = stamped at (drop w b) s in
    rw (e (length b))
    (rw (e (length (set b (w + i) s)))
    (rw (take-set-le w b (w + i) s (omega arith))
    (rw (drop-set-add w b i s)
    (record {
      inside = λ t. let l = ih.inside (fitting t).1 in omega (arith, length-drop w b);
      fit = ap (λ (z : Bool). fits f (length (take w b)) && z) ih.fit;
      others = λ n ne. ap (λ (z : Bool). kept n p && z) (ih.others n ne);
      dates =
          λ t k.
          let h = every-cons (kept 9) p rest k in
          ap₂ ◌&&◌ {x = kept 9 p} (T→true h.0) (ih.dates (fitting t).1 h.1);
    }))))
  where
    p : Piece
    p = record { field = f; bytes = take w b }

    rest : List Piece
    rest = pieces fs (drop w b)

    fitting : T (lengths_fit (p ∷ rest)) → T (fits f (length (take w b))) × T (lengths_fit rest)
    fitting t = every-cons (λ q. fits q.field (length q.bytes)) p rest t

-- ---- a record

-- with s as the byte i of its body
abbrev with : ℕ → ℕ → Rec → Rec
with i s r = record { type = r.type; flags = r.flags; body = set r.body i s }

only-nine : {a b c d e f g x : Bool} → a ≡ true → b ≡ true → c ≡ true → d ≡ x → e ≡ true → f ≡ true → g ≡ true → broken (rule 6 a ∷ rule 7 b ∷ rule 8 c ∷ rule 9 d ∷ rule 10 e ∷ rule 11 f ∷ rule 12 g ∷ []) ≡ cond x None (Some 9)
unfolding broken
only-nine a b c d e f g i = broken (rule 6 (a i) ∷ rule 7 (b i) ∷ rule 8 (c i) ∷ rule 9 (d i) ∷ rule 10 (e i) ∷ rule 11 (f i) ∷ rule 12 (g i) ∷ [])

-- what a record needs of its place stays, and of its rules only 9 may break
with-fault : (ok : Bool) (k : Kind) (r : Rec) (i s : ℕ) → SecondAt (layout k r.flags) i → broken (rules ok (Some k) r) ≡ None → (i < length r.body) × (broken (rules ok (Some k) (with i s r)) ≡ cond (leb s 60) None (Some 9))
unfolding rules pieces_of
with-fault ok k r i s at e =
    let h = all-kept ok k r e in
    let st = stamped at r.body s in (
      st.inside h.lengths,
      only-nine
          (T→true h.place)
          (T→true h.flags)
          (st.fit ∙ T→true h.lengths)
          (st.dates h.lengths h.nine)
          (st.others 10 refl ∙ T→true h.ten)
          (st.others 11 refl ∙ T→true h.eleven)
          (st.others 12 refl ∙ T→true h.twelve),
    )

-- a byte put into bytes
Bytes-set : (l : List ℕ) (i s : ℕ) → Bytes l → s < 256 → Bytes (set l i s)
Bytes-set [] i s h hs j = h j
Bytes-set (x ∷ l) zero s h hs zero = hs
Bytes-set (x ∷ l) zero s h hs (suc j) = h (suc j)
Bytes-set (x ∷ l) (suc i) s h hs zero = h zero
Bytes-set (x ∷ l) (suc i) s h hs (suc j) = Bytes-set l i s (λ n. h (suc n)) hs j

with-sized : (r : Rec) (i s : ℕ) → s < 256 → Sized r → Sized (with i s r)
with-sized r i s hs h =
    let l = length-set r.body i s in
    record {
      even = rw l h.even;
      small = rw l h.small;
      type-byte = h.type-byte;
      flags-byte = h.flags-byte;
      body_bytes = Bytes-set r.body i s h.body_bytes hs;
    }

with-bytes : (r : Rec) (i s : ℕ) → set (bytes_of r) (4 + i) s ≡ bytes_of (with i s r)
unfolding bytes_of
with-bytes r i s =
    let four : 4 + i ≡ suc (suc (suc (suc i))) = omega arith in
    ap (λ (j : ℕ). set (bytes_of r) j s) four ∙ rw (length-set r.body i s) refl

-- ---- a file

set-append : (x y : List ℕ) (i s : ℕ) → set (x ++ y) (length x + i) s ≡ x ++ set y i s
set-append [] y i s = ap (λ (j : ℕ). set y j s) (zero-add i)
set-append (a ∷ x) y i s = ap (λ (j : ℕ). set (a ∷ (x ++ y)) j s) (suc-add (length x) i) ∙ ap (λ t. a ∷ t) (set-append x y i s)

join-append : (x y : List Rec) → join bytes_of (x ++ y) ≡ join bytes_of x ++ join bytes_of y
join-append [] y = refl
join-append (r ∷ x) y = ap (λ t. bytes_of r ++ t) (join-append x y) ∙ sym (append_assoc (bytes_of r) (join bytes_of x) (join bytes_of y))

-- a step at a record that breaks a rule
step-fault : (c : Context) (at n : ℕ) (r : Rec) (bs : List ℕ) → c.ended ≡ false → Sized r → fault (facts_of c) r ≡ Some n → step c at (bytes_of r ++ bs) ≡ stop (refused n at)
unfolding step judge settle
step-fault c at n r bs e h b =
    let x = bytes_of r ++ bs in
    let b' = ap (λ (m : Bool). broken (rules m (kind_of r.type) r)) (may-is c (kind_of r.type)) ∙ b in
    ap (λ (z : Bool). cond z (stop (finish at x)) (judge c at (cut x))) e ∙ ap (judge c at) (cut_of r bs h) ∙ ap (settle c at r bs) b'

there : (q : Rec) (at : ℕ) (bs : List ℕ) → at + size q + length bs ≡ at + length (bytes_of q ++ bs)
unfolding bytes_of
there q at bs = omega (arith, length-append q.body bs)

there-inside : (r : Rec) (i : ℕ) → i < length r.body → 4 + i < length (bytes_of r)
unfolding bytes_of
there-inside r i h = omega arith

-- A record r of the kind k, the byte i of its body a second, and s in its place.
module _ (k : Kind) (r : Rec) (i s : ℕ) (kind : kind_of r.type ≡ Some k) (second : SecondAt (layout k r.flags) i) (byte : s < 256) where
  with-kept : (facts : OrderFacts) → fault facts r ≡ None → (i < length r.body) × (fault facts (with i s r) ≡ cond (leb s 60) None (Some 9))
  with-kept facts e =
      let h = with-fault (may facts (Some k)) k r i s second (subst (λ (o : Option Kind). broken (rules (may facts o) o r) ≡ None) kind e) in
      (h.0, subst (λ (o : Option Kind). broken (rules (may facts o) o (with i s r)) ≡ cond (leb s 60) None (Some 9)) (sym kind) h.1)

  inside_of : (earlier later : List Rec) (facts : OrderFacts) → Chain facts (earlier ++ (r ∷ later)) → i < length r.body
  inside_of [] later facts h = (with-kept facts h.2).0
  inside_of (q ∷ earlier) later facts h = inside_of earlier later (then facts (kind_of q.type)) h.3

  -- the walk over the bytes from an offset on, `earlier` records before r
  walk-second : (earlier later : List Rec) (n : ℕ) (c : Context) (at : ℕ) → length (earlier ++ (r ∷ later)) ≤ n → Chain (facts_of c) (earlier ++ (r ∷ later)) → (walk n (step c at (join bytes_of earlier ++ (bytes_of (with i s r) ++ join bytes_of later)))).verdict ≡ cond (leb s 60) accepted (refused 9 (at + length (join bytes_of earlier)))
  unfolding walk
  walk-second [] later zero c at l h = absurd (omega arith)
  walk-second [] later (suc n) c at l h = decided (leb s 60) refl
    where
      q : Rec
      q = with i s r

      sized : Sized q
      sized = with-sized r i s byte h.1

      decided : (b : Bool) → leb s 60 ≡ b → (walk (suc n) (step c at (bytes_of q ++ join bytes_of later))).verdict ≡ cond b accepted (refused 9 (at + 0))
      decided true e = (walk-complete (q ∷ later) (suc n) c at (omega arith) (h.0, sized, (with-kept (facts_of c) h.2).1 ∙ ap (λ (z : Bool). cond z None (Some 9)) e, h.3)).0
      decided false e = rw (step-fault c at 9 q (join bytes_of later) h.0 sized ((with-kept (facts_of c) h.2).1 ∙ ap (λ (z : Bool). cond z None (Some 9)) e)) (ap (refused 9) (sym (add-zero at)))
  walk-second (q ∷ earlier) later zero c at l h = absurd (omega arith)
  walk-second (q ∷ earlier) later (suc n) c at l h =
      let p = placed c at q in
      let rest = join bytes_of earlier ++ (bytes_of (with i s r) ++ join bytes_of later) in
      let ih = walk-second earlier later n (context_after p) (at + size q) (omega arith) (subst (λ (u : OrderFacts). Chain u (earlier ++ (r ∷ later))) (sym (after_is c p refl)) h.3) in
      rw (append_assoc (bytes_of q) (join bytes_of earlier) (bytes_of (with i s r) ++ join bytes_of later))
      (rw (step_of c at q rest h.0 h.1 h.2) (ih ∙ ap (λ (p : ℕ). cond (leb s 60) accepted (refused 9 p)) (there q at (join bytes_of earlier))))

  -- the file of these records, with s in place of the second
  file-second : (f : List ℕ) → Bytes f → Accepted f → (earlier later : List Rec) → records_of f ≡ earlier ++ (r ∷ later) → (j : ℕ) → j ≡ 4 + (length (join bytes_of earlier) + (4 + i)) → verdict_of (set f j s) ≡ cond (leb s 60) accepted (refused 9 (4 + length (join bytes_of earlier)))
  unfolding verdict_of walk_of begin opening
  file-second f hb a earlier later e j ej =
      let J = join bytes_of earlier in
      let q = with i s r in
      let sound = file-sound f hb a in
      let chain = subst (λ (rs : List Rec). Chain (facts_of start) rs) e sound.1 in
      let whole : f ≡ header ++ (J ++ (bytes_of r ++ join bytes_of later)) = sound.0 ∙ ap (λ (rs : List Rec). header ++ join bytes_of rs) e ∙ ap (λ t. header ++ t) (join-append earlier (r ∷ later)) in
      let put : set f j s ≡ header ++ (J ++ (bytes_of q ++ join bytes_of later)) =
      ap₂ (λ g n. set g n s) whole ej ∙ set-append header (J ++ (bytes_of r ++ join bytes_of later)) (length J + (4 + i)) s
      ∙ ap (λ t. header ++ t) (set-append J (bytes_of r ++ join bytes_of later) (4 + i) s)
      ∙ ap (λ t. header ++ (J ++ t)) (set-append_left (bytes_of r) (join bytes_of later) (4 + i) s (there-inside r i (inside_of earlier later (facts_of start) chain)) ∙ ap (λ t. t ++ join bytes_of later) (with-bytes r i s)) in
      ap (λ g. (walk (length g) (begin g)).verdict) put
      ∙ walk-second earlier later (length (header ++ (J ++ (bytes_of q ++ join bytes_of later)))) start 4 (omega (arith, length-append earlier (r ∷ later), length-append J (bytes_of q ++ join bytes_of later), length-join earlier, length-join (q ∷ later))) chain

each-second : (f : List ℕ) → Bytes f → Accepted f → (earlier : List Rec) (r : Rec) (later : List Rec) → records_of f ≡ earlier ++ (r ∷ later)
    → (k : Kind) → kind_of r.type ≡ Some k → (s : ℕ) → s < 256
    → let at = 4 + length (join bytes_of earlier) in All (λ date. verdict_of (set f (at + date + 6) s) ≡ cond (leb s 60) accepted (refused 9 at)) (dates_at k)
unfolding dates_at layout width
each-second f hb a earlier r later e Library kind s byte = (
  file-second Library r 22 s kind (after 8 (λ n. refl) (after 8 (λ n. refl) this)) byte f hb a earlier later e _ (omega arith),
  (file-second Library r 30 s kind (after 8 (λ n. refl) (after 8 (λ n. refl) (after 8 (λ n. refl) this))) byte f hb a earlier later e _ (omega arith), tt),
)
each-second f hb a earlier r later e Struct kind s byte = (
  file-second Struct r 6 s kind this byte f hb a earlier later e _ (omega arith),
  (file-second Struct r 14 s kind (after 8 (λ n. refl) this) byte f hb a earlier later e _ (omega arith), tt),
)
each-second f hb a earlier r later e Cprpty kind s byte = tt
each-second f hb a earlier r later e Property kind s byte = tt
each-second f hb a earlier r later e Layer kind s byte = tt
each-second f hb a earlier r later e Box kind s byte = tt
each-second f hb a earlier r later e Poly kind s byte = tt
each-second f hb a earlier r later e Wire kind s byte = tt
each-second f hb a earlier r later e Text kind s byte = tt
each-second f hb a earlier r later e Sref kind s byte = tt
each-second f hb a earlier r later e Endlib kind s byte = tt

pub seconds : Seconds
seconds = record { date = date-second; file = each-second; specimens = leap-seconds }
