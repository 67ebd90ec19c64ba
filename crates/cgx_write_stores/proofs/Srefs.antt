-- The stores of an SREF, one after the other, are the bytes of its record, whichever of its fields are there. Assumes nothing.
use mathlib.Core.Path.{◌≡◌, refl, sym, ap, ◌∙◌}
use mathlib.Core.Bool.{Bool, true, false}
use mathlib.Core.List.{List, [], ◌∷◌, ◌++◌, append_assoc, append-nil}
use Prim.Native.Nat.{ℕ, ◌+◌, ◌*◌, ◌/◌, ◌%◌, ◌≤◌, ◌<◌}
use native.Mathlib.Omega.{arith}
use lib.IntN.{ℤ}
use lib.Signed.{mag}
use lib.ListN.{length, length-append}
use mir.Syntax.{w32}
use mir.Val.{to_z, of_z}
use mir.ValLaws.{to_z-of_z}
use Rattle.cgx_spec.specs.declared.Kind.TheVariants.{Sref}
use Rattle.cgx_spec.specs.Numbers.{long_bytes}
use Rattle.cgx_spec.specs.Reals.{normal_real}
use Rattle.cgx_spec.specs.Strings.{padded}
use Rattle.cgx_spec.specs.Kinds.{angle, magnif, array, flags_of, type_for}
use Rattle.cgx_spec.specs.Records.{bytes_of}
use Rattle.buffers.specs.Put.{put, longs_bytes}
use Rattle.buffers.proofs.Puts.{put-nil, put_next}
use Rattle.cgx_format_kinds.specs.declared.Point.{Point}
use Rattle.cgx_format_sref.specs.declared.SrefLayout.{SrefLayout}
use Rattle.cgx_format_sref.specs.Layouts.{sref_layout, Laid}
use Rattle.cgx_format_kinds.specs.declared.Grid.{Grid}
use Rattle.cgx_write_given.specs.Given.{long, point, if_set, stored, written, given_sref}
use Rattle.cgx_write_given.specs.Srefs.{real_if, grid_if, sref_size}
use Rattle.cgx_write_given.proofs.Srefs.{after-real, after-grid, sref-size}

-- ---- a field by its flag

pub real-on : (b : Bool) (r : List ℕ) → b ≡ true → normal_real r ≡ real_if b r
unfolding stored
real-on b r e = rw e

pub real-off : (b : Bool) (r l : List ℕ) (at : ℕ) → b ≡ false → l ≡ put l at (real_if b r)
unfolding stored
real-off b r l at e = rw e (sym (put-nil l at))

abbrev longs_of : Grid → List ℤ
longs_of g = g.cols ∷ g.rows ∷ g.across.x ∷ g.across.y ∷ g.up.x ∷ g.up.y ∷ []

pub grid-on : (b : Bool) (g : Grid) → b ≡ true → longs_bytes (longs_of g) ≡ grid_if b g
unfolding stored longs_bytes long_bytes
grid-on b g e = rw e

pub grid-off : (b : Bool) (g : Grid) (l : List ℕ) (at : ℕ) → b ≡ false → l ≡ put l at (grid_if b g)
unfolding stored
grid-off b g l at e = rw e (sym (put-nil l at))

abbrev held : ℤ → ℤ
held z = to_z w32 (of_z w32 z)

module _ (g : Grid) (c : mag g.cols < 2147483648) (r : mag g.rows < 2147483648) (ax : mag g.across.x < 2147483648) (ay : mag g.across.y < 2147483648) (ux : mag g.up.x < 2147483648) (uy : mag g.up.y < 2147483648) where
  pub longs-held : held g.cols ∷ held g.rows ∷ held g.across.x ∷ held g.across.y ∷ held g.up.x ∷ held g.up.y ∷ [] ≡ longs_of g
  longs-held =
      rw (to_z-of_z w32 g.cols (record { sfits = c }), to_z-of_z w32 g.rows (record { sfits = r }), to_z-of_z w32 g.across.x (record { sfits = ax }), to_z-of_z w32 g.across.y (record { sfits = ay }), to_z-of_z w32 g.up.x (record { sfits = ux }), to_z-of_z w32 g.up.y (record { sfits = uy }))

-- ---- room: each field that is there has its own

-- of a record at an offset, with a name of n bytes, in a buffer of so many
pub record Room (at n room : ℕ) (l : SrefLayout) : Type 0 where
  pub small : l.name + (2 + n / 2 * 2) ≤ 65534
  pub first : 12 ≤ l.magnif
  pub second : l.magnif ≤ l.array
  pub third : l.array ≤ l.name
  pub name : at + l.name + (2 + n / 2 * 2) ≤ room
  pub angle : l.turned ≡ true → at + 12 + 8 ≤ room
  pub magnif : l.scaled ≡ true → at + l.magnif + 8 ≤ room
  pub array : l.repeated ≡ true → at + l.array + 24 ≤ room

pub roomy : (at fl : ℕ) (t b : List ℕ) {l : SrefLayout} → at + sref_size fl (length t) ≤ length b → sref_size fl (length t) ≤ 65534 → (l ≡ sref_layout fl) × Laid l → Room at (length t) (length b) l
unfolding sref_size
roomy at fl t b h s e =
    let q = ap (λ (k : SrefLayout). k.name) e.0 in
    let o = e.1 in
    record {
      small = omega arith;
      first = o.first;
      second = o.second;
      third = o.third;
      name = omega arith;
      angle = λ t. omega (arith, o.angle-in t);
      magnif = λ t. omega (arith, o.magnif-in t);
      array = λ t. omega (arith, o.array-in t);
    }

-- ---- the record

-- size, type and flags
abbrev heads : ℕ → ℕ → List ℕ
heads size fl = size / 256 ∷ size % 256 ∷ type_for Sref ∷ flags_of Sref fl ∷ []

regroup : (h x y a m c r p q t : List ℕ) → (((((h ++ x) ++ y) ++ a) ++ m) ++ (c ++ (r ++ (p ++ q)))) ++ t ≡ h ++ (x ++ (y ++ (a ++ (m ++ (c ++ (r ++ (p ++ (q ++ (t ++ [])))))))))
regroup h x y a m c r p q t = simp (append_assoc, append-nil)

module _ (fl : ℕ) (p : Point) (turn scale : List ℕ) (g : Grid) (t : List ℕ) where
  pub sref-store : (l : List ℕ) (at : ℕ) (o : SrefLayout) → o ≡ sref_layout fl
      → put (put (put (put (put (put (put l at (heads (sref_size fl (length t)) fl)) (at + 4) (long_bytes p.x)) (at + 8) (long_bytes p.y)) (at + 12) (real_if o.turned turn)) (at + o.magnif) (real_if o.scaled scale)) (at + o.array) (grid_if o.repeated g)) (at + o.name) (padded t) ≡ put l at (bytes_of (written (given_sref fl p turn scale g t)))
  unfolding bytes_of written given_sref stored longs_bytes long_bytes
  sref-store l at o q =
      let k = sref_layout fl in
      let second = at + k.magnif in
      let third = at + k.array in
      let last = at + k.name in
      let h = heads (sref_size fl (length t)) fl in
      let x = long_bytes p.x in
      let y = long_bytes p.y in
      let a = real_if (angle fl) turn in
      let m = real_if (magnif fl) scale in
      let c = grid_if (array fl) g in
      let s1 = (h ++ x) ++ y in
      let s2 = s1 ++ a in
      let s3 = s2 ++ m in
      let n2 : length s2 ≡ k.magnif = length-append s1 a ∙ after-real (angle fl) turn 12 in
      let n3 : length s3 ≡ k.array = length-append s2 m ∙ ap (λ (n : ℕ). n + length m) n2 ∙ after-real (magnif fl) scale k.magnif in
      let n4 : length (s3 ++ c) ≡ k.name = length-append s3 c ∙ ap (λ (n : ℕ). n + length c) n3 ∙ after-grid (array fl) g k.array in
      ap (λ (o : SrefLayout). put (put (put (put (put (put (put l at h) (at + 4) x) (at + 8) y) (at + 12) (real_if o.turned turn)) (at + o.magnif) (real_if o.scaled scale)) (at + o.array) (grid_if o.repeated g)) (at + o.name) (padded t)) q
      ∙ ap (λ (b : List ℕ). put (put (put (put (put b (at + 8) y) (at + 12) a) second m) third c) last (padded t)) (put_next l at 4 (at + 4) h x refl refl)
      ∙ ap (λ (b : List ℕ). put (put (put (put b (at + 12) a) second m) third c) last (padded t)) (put_next l at 8 (at + 8) (h ++ x) y refl refl)
      ∙ ap (λ (b : List ℕ). put (put (put b second m) third c) last (padded t)) (put_next l at 12 (at + 12) s1 a refl refl)
      ∙ ap (λ (b : List ℕ). put (put b third c) last (padded t)) (put_next l at k.magnif second s2 m n2 refl)
      ∙ ap (λ (b : List ℕ). put b last (padded t)) (put_next l at k.array third s3 c n3 refl)
      ∙ put_next l at k.name last (s3 ++ c) (padded t) n4 refl
      ∙ ap (put l at) (regroup h x y a m (stored (if_set (array fl) (long g.cols))) (stored (if_set (array fl) (long g.rows))) (stored (if_set (array fl) (point g.across))) (stored (if_set (array fl) (point g.up))) (padded t))
      ∙ ap (λ (k : ℕ). put l at (heads k fl ++ (written (given_sref fl p turn scale g t)).body)) (sref-size fl p turn scale g t)
