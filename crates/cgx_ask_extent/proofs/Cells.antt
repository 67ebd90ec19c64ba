-- The loops over the sequence: towards a cell, and over its points. Assumes nothing.
use Rattle.std.specs.Prelude.{None, Option, Some, Err}
use mathlib.Core.Path.{◌≡◌, refl, sym, ap, ◌∙◌, subst}
use mathlib.Core.Bool.{Bool, true, false, cond}
use mathlib.Core.List.{List, [], ◌∷◌, ◌++◌}
use Prim.Native.Nat.{ℕ, zero, suc, ◌+◌, ◌-◌, ◌≤◌}
use native.Mathlib.Omega.{arith}
use lib.ListN.{take, drop}
use Rattle.cgx_format_kinds.specs.declared.Sides.{Sides}
use Rattle.cgx_spec.specs.declared.Kind.{Kind}
use Rattle.cgx_spec.specs.declared.Kind.TheVariants.{Library, Struct, Cprpty, Property, Layer, Box, Poly, Wire, Text, Sref, Endlib}
use Rattle.cgx_spec.specs.declared.FileRefusal.{FileRefusal}
use Rattle.cgx_spec.specs.Verdicts.{Verdict, of_file}
use Rattle.cgx_spec.specs.Verdicts.{accepted, refused}
use Rattle.cgx_spec.specs.Numbers.{Bytes, longs_of}
use Rattle.cgx_spec.specs.Records.{Rec}
use Rattle.cgx_spec.specs.Files.{Accepted, verdict_of, Known, known, sequence}
use Rattle.cgx_spec.specs.Walking.{rec_at}
use Rattle.cgx_format_headers.specs.declared.KnownRecord.{KnownRecord}
use Rattle.cgx_read_sequence.specs.Sequence.{Rest, First}
use Rattle.cgx_read_sequence.proofs.Rests.{first_rest}
use Rattle.cgx_ask_extent.specs.declared.ExtentRole.{ExtentRole}
use Rattle.cgx_ask_extent.specs.declared.ExtentRole.TheVariants.{Opens, Points, Neither}
use Rattle.cgx_ask_extent.specs.Extent.{not_found, found, extent_role, pairs, points_by, points, hull, opens, up_to_struct, cell_of, around, answer_on, extent_of}
use Rattle.cgx_ask_extent.specs.Cells.{hull_from, Begins, CellIn, HullIn}
use Rattle.cgx_ask_extent.proofs.Hulls.{hull-append, hull-none}

-- ---- one record of a sequence

cell_opens : (k : ℕ) (n : Known) (ns : List Known) → opens (extent_role n.kind) ≡ true → (k ≡ 0 → ⊥) → cell_of k (n ∷ ns) ≡ cell_of (k - 1) ns
unfolding cell_of
cell_opens zero n ns e z = absurd (z refl)
cell_opens (suc k) n ns e z =
    let q : k ≡ suc k - 1 = omega arith in
    ap (λ (b : Bool). cond b (cell_of k ns) (cell_of (suc k) ns)) e ∙ ap (λ (j : ℕ). cell_of j ns) q

cell-here : (k : ℕ) (n : Known) (ns : List Known) → opens (extent_role n.kind) ≡ true → k ≡ 0 → cell_of k (n ∷ ns) ≡ Some (up_to_struct ns)
unfolding cell_of
cell-here zero n ns e z = ap (λ (b : Bool). cond b (Some (up_to_struct ns)) (cell_of zero ns)) e
cell-here (suc k) n ns e z = absurd (omega arith)

cell-past : (k : ℕ) (n : Known) (ns : List Known) → opens (extent_role n.kind) ≡ false → cell_of k (n ∷ ns) ≡ cell_of k ns
unfolding cell_of
cell-past zero n ns e = ap (λ (b : Bool). cond b (Some (up_to_struct ns)) (cell_of zero ns)) e
cell-past (suc k) n ns e = ap (λ (b : Bool). cond b (cell_of k ns) (cell_of (suc k) ns)) e

no_cell : (k : ℕ) → cell_of k [] ≡ None
unfolding cell_of
no_cell zero = refl
no_cell (suc k) = refl

-- the points of a record and of those after it
points_on : (n : Known) (ns : List Known) {s : ExtentRole} → extent_role n.kind ≡ s → opens s ≡ false → points (up_to_struct (n ∷ ns)) ≡ points_by s n.rec.body ++ points (up_to_struct ns)
unfolding up_to_struct points
points_on n ns {s} e o =
    ap (λ (b : Bool). points (cond b [] (n ∷ up_to_struct ns))) (ap opens e ∙ o)
    ∙ ap (λ (x : ExtentRole). points_by x n.rec.body ++ points (up_to_struct ns)) e

points-end : (n : Known) (ns : List Known) → opens (extent_role n.kind) ≡ true → points (up_to_struct (n ∷ ns)) ≡ []
unfolding up_to_struct points
points-end n ns e = ap (λ (b : Bool). points (cond b [] (n ∷ up_to_struct ns))) e

-- no points begin after a wire's width
abbrev Low : ExtentRole → Type 0
Low Opens = Unit {0}
Low (Points from) = from ≤ 4
Low Neither = Unit {0}

low : (k : Kind) → Low (extent_role k)
low Library = tt
low Struct = tt
low Cprpty = tt
low Property = tt
low Layer = tt
low Box = omega arith
low Poly = omega arith
low Wire = omega arith
low Text = tt
low Sref = tt
low Endlib = tt

pub from_low : (k : Kind) {s : ExtentRole} {from : ℕ} → s ≡ extent_role k → s ≡ Points from → from ≤ 4
from_low k e q = subst Low (sym e ∙ q) (low k)

-- ---- towards the cell

-- the cell that is asked for is the one with so many before it among the rest
pub record Seeks (f : List ℕ) (k at left : ℕ) : Type 0 where
  pub records : List Rec
  pub rest : Rest f at records
  pub cell : cell_of k (sequence f) ≡ cell_of left (known records)

pub seeks-first : (f : List ℕ) (k : ℕ) → Bytes f → Accepted f → Seeks f k 4 k
unfolding sequence
seeks-first f k h a = record { records = _; rest = first_rest f h a; cell = refl }

module _ (f : List ℕ) (k at left : ℕ) (o : Seeks f k at left) where
  pub seeks-end : known o.records ≡ [] → CellIn f k None
  unfolding CellIn
  seeks-end e = o.cell ∙ ap (cell_of left) e ∙ no_cell left

  module _ (r : KnownRecord) (n : First f at r o.records) {s : ExtentRole} (e : s ≡ extent_role r.kind) where
    abbrev this : Known
    this = record { kind = r.kind; rec = rec_at f r.at r.size }

    on-this : cell_of k (sequence f) ≡ cell_of left (this ∷ known n.more)
    on-this = o.cell ∙ ap (cell_of left) n.sequence

    pub seeks-here : s ≡ Opens → left ≡ 0 → CellIn f k (Some (r.at + r.size))
    unfolding CellIn
    seeks-here q z = record { records = n.more; rest = n.rest; cell = on-this ∙ cell-here left this (known n.more) (ap opens (sym e ∙ q)) z }

    pub seeks-next : s ≡ Opens → (left ≡ 0 → ⊥) → Seeks f k (r.at + r.size) (left - 1)
    seeks-next q z = record { records = n.more; rest = n.rest; cell = on-this ∙ cell_opens left this (known n.more) (ap opens (sym e ∙ q)) z }

    pub seeks-past : opens s ≡ false → Seeks f k (r.at + r.size) left
    seeks-past q = record { records = n.more; rest = n.rest; cell = on-this ∙ cell-past left this (known n.more) (ap opens (sym e) ∙ q) }

-- ---- over its points

-- the hull of the whole cell is that of what was met and the rest
pub record Spans (f : List ℕ) (from at : ℕ) (h : Option Sides) (rs : List Rec) : Type 0 where
  pub records : List Rec
  pub rest : Rest f at records
  pub same : hull (points (up_to_struct (known rs))) ≡ hull_from h (points (up_to_struct (known records)))

abbrev pub SpansAll : List ℕ → ℕ → ℕ → Option Sides → Type 0
SpansAll f from at h = (rs : List Rec) → Rest f from rs → Spans f from at h rs

pub spans-first : (f : List ℕ) (from : ℕ) → SpansAll f from from None
unfolding hull_from
spans-first f from = λ rs g. record { records = rs; rest = g; same = refl }

module _ (f : List ℕ) (from at : ℕ) (h : Option Sides) (o : SpansAll f from at h) where
  pub spans-end : ((rs : List Rec) → Rest f at rs → known rs ≡ []) → HullIn f from h
  unfolding up_to_struct points
  spans-end e =
      λ rs g.
      let x = o rs g in
      sym (x.same ∙ ap (λ (ns : List Known). hull_from h (points (up_to_struct ns))) (e x.records x.rest) ∙ hull-none h)

  module _ (r : KnownRecord) (n : (rs : List Rec) → Rest f at rs → First f at r rs) {s : ExtentRole} (e : s ≡ extent_role r.kind) where
    abbrev that : Known
    that = record { kind = r.kind; rec = rec_at f r.at r.size }

    pub spans-stop : s ≡ Opens → HullIn f from h
    spans-stop q =
        λ rs g.
        let x = o rs g in
        let m = n x.records x.rest in
        sym (x.same ∙ ap (λ (ns : List Known). hull_from h (points (up_to_struct ns))) m.sequence ∙ ap (hull_from h) (points-end that (known m.more) (ap opens (sym e ∙ q))) ∙ hull-none h)

    spans_on : (t : ExtentRole) → s ≡ t → opens t ≡ false → (h' : Option Sides) → h' ≡ hull_from h (points_by t (rec_at f r.at r.size).body) → SpansAll f from (r.at + r.size) h'
    spans_on t q z h' d =
        λ rs g.
        let x = o rs g in
        let m = n x.records x.rest in
        let ps = points (up_to_struct (known m.more)) in
        record {
          records = m.more;
          rest = m.rest;
          same = x.same ∙ ap (λ (ns : List Known). hull_from h (points (up_to_struct ns))) m.sequence ∙ ap (hull_from h) (points_on that (known m.more) (sym e ∙ q) z) ∙ hull-append h (points_by t (rec_at f r.at r.size).body) ps ∙ ap (λ (y : Option Sides). hull_from y ps) (sym d);
        }

    pub spans-past : s ≡ Neither → SpansAll f from (r.at + r.size) h
    unfolding points_by
    spans-past q = spans_on Neither q refl h (sym (hull-none h))

    pub spans-grown : {skip : ℕ} → s ≡ Points skip → (h' : Option Sides) → h' ≡ hull_from h (pairs (longs_of (drop skip (take (r.at + r.size - (r.at + 4)) (drop (r.at + 4) f))))) → SpansAll f from (r.at + r.size) h'
    unfolding points_by rec_at
    spans-grown {skip} q h' d =
        let m : r.at + r.size - (r.at + 4) ≡ r.size - 4 = omega arith in
        spans_on (Points skip) q refl h' (d ∙ ap (λ (j : ℕ). hull_from h (pairs (longs_of (drop skip (take j (drop (r.at + 4) f)))))) m)

-- ---- the role of a record that opens no cell

pub opens-not : (r : ExtentRole) → (r ≡ Opens → ⊥) → opens r ≡ false
opens-not Opens n = absurd (n refl)
opens-not (Points from) n = refl
opens-not Neither n = refl

-- ---- the answer

module _ (f : List ℕ) (k : ℕ) where
  pub extent-refused : {r : FileRefusal} → Err r ≡ verdict_of f → Err (of_file r) ≡ extent_of f k
  unfolding extent_of answer_on
  extent-refused e = sym (ap (λ (v : Verdict). answer_on v (around (cell_of k (sequence f)))) (sym e))

  module _ (a : accepted ≡ verdict_of f) where
    by-cell : (o : Option (List Known)) → cell_of k (sequence f) ≡ o → extent_of f k ≡ answer_on accepted (around o)
    unfolding extent_of
    by-cell o e = ap (λ (v : Verdict). answer_on v (around (cell_of k (sequence f)))) (sym a) ∙ ap (λ (x : Option (List Known)). answer_on accepted (around x)) e

    pub extent-none : {c : Option ℕ} → CellIn f k c → c ≡ None → not_found 16 None ≡ extent_of f k
    unfolding CellIn answer_on around
    extent-none i q = sym (by-cell None (subst (CellIn f k) q i))

    pub begins : {c : Option ℕ} {at : ℕ} → CellIn f k c → c ≡ Some at → Begins f k at
    unfolding CellIn
    begins i q = subst (CellIn f k) q i

    pub extent-of : {at : ℕ} {h : Option Sides} → Begins f k at → HullIn f at h → found h ≡ extent_of f k
    unfolding answer_on around
    extent-of b s = ap found (s b.records b.rest) ∙ sym (by-cell (Some (up_to_struct (known b.records))) b.cell)
