-- The bytes that an item takes, as the code counts them: so the size of a record, and the stores of its items one after the other. Assumes nothing.
use mathlib.Core.Path.{◌≡◌, refl, sym, ap, ap₂, ◌∙◌}
use mathlib.Core.List.{List, [], ◌∷◌, ◌++◌, append-nil, append_assoc}
use Prim.Native.Nat.{ℕ, ◌+◌, ◌*◌, ◌/◌, ◌%◌}
use native.Mathlib.Omega.{arith}
use lib.IntN.{ℤ}
use lib.ListN.{length, length-append}
use Rattle.cgx_spec.specs.Numbers.{short_bytes}
use Rattle.cgx_spec.specs.Fields.{join}
use Rattle.cgx_spec.specs.Kinds.{flags_of, type_for}
use Rattle.cgx_spec.specs.Records.{size, bytes_of}
use Rattle.cgx_spec.proofs.RealLaws.{normal_real-length}
use Rattle.buffers.specs.Put.{put}
use Rattle.buffers.proofs.Puts.{put_next, length-longs}
use Rattle.buffers.proofs.Padding.{length-padded}
use Rattle.cgx_format_kinds.specs.declared.Date.{Date}
use Rattle.cgx_write_given.specs.declared.Owner.{Owner}
use Rattle.cgx_write_given.specs.Given.{Item, eight, day, small, list, words, nothing, date_bytes, stored, Given, written, given_library, given_struct, given_owned}

abbrev pub width : Item → ℕ
width (eight b) = 8
width (day d) = 8
width (small z) = 2
width (list zs) = 4 * length zs
width (words t) = 2 + length t / 2 * 2
width nothing = 0

width_is : (i : Item) → length (stored i) ≡ width i
unfolding stored date_bytes short_bytes
width_is (eight b) = normal_real-length b
width_is (day d) = refl
width_is (small z) = refl
width_is (list zs) = length-longs zs
width_is (words t) = let e = length-padded t in omega arith
width_is nothing = refl

-- ---- the size of a record

abbrev widths : List Item → ℕ
widths [] = 0
widths (i ∷ is) = width i + widths is

widths-are : (is : List Item) → widths is ≡ length (join stored is)
widths-are [] = refl
widths-are (i ∷ is) = let a = length-append (stored i) (join stored is) in let b = width_is i in let c = widths-are is in omega arith

size_is : (g : Given) (n : ℕ) → n ≡ 4 + widths g.items → n ≡ size (written g)
unfolding written
size_is g n e = e ∙ ap (λ (k : ℕ). 4 + k) (widths-are g.items)

module _ (version : ℕ) (munit uunit : List ℕ) (created modified : Date) (t : List ℕ) where
  pub library-size : 38 + length t / 2 * 2 ≡ size (written (given_library version munit uunit created modified t))
  unfolding given_library
  library-size = size_is (given_library version munit uunit created modified t) (38 + length t / 2 * 2) (omega arith)

module _ (created modified : Date) (t : List ℕ) where
  pub struct-size : 22 + length t / 2 * 2 ≡ size (written (given_struct created modified t))
  unfolding given_struct
  struct-size = size_is (given_struct created modified t) (22 + length t / 2 * 2) (omega arith)

module _ (owner : Owner) (number : ℤ) (t : List ℕ) where
  pub owned-size : 10 + length t / 2 * 2 ≡ size (written (given_owned owner number t))
  unfolding given_owned
  owned-size = size_is (given_owned owner number t) (10 + length t / 2 * 2) (omega arith)

-- ---- the stores of a record

-- Items stored one after the other, from k bytes after `at` on.
abbrev pub put_items : List ℕ → ℕ → ℕ → List Item → List ℕ
put_items l at k [] = l
put_items l at k (i ∷ is) = put_items (put l (at + k) (stored i)) at (k + width i) is

put-items : (l : List ℕ) (at k : ℕ) (vs : List ℕ) (is : List Item) → length vs ≡ k → put_items (put l at vs) at k is ≡ put l at (vs ++ join stored is)
put-items l at k vs [] e = ap (put l at) (sym (append-nil vs))
put-items l at k vs (i ∷ is) e =
    let n : length (vs ++ stored i) ≡ k + width i = length-append vs (stored i) ∙ ap₂ (λ (a b : ℕ). a + b) e (width_is i) in
    ap (λ (m : List ℕ). put_items m at (k + width i) is) (put_next l at k (at + k) vs (stored i) e refl)
    ∙ put-items l at (k + width i) (vs ++ stored i) is n
    ∙ ap (put l at) (append_assoc vs (stored i) (join stored is))

-- size, type and flags, then the items, are the record's bytes
pub record-put : (g : Given) (l : List ℕ) (at n : ℕ) → n ≡ size (written g)
    → put_items (put l at (n / 256 ∷ n % 256 ∷ type_for g.kind ∷ flags_of g.kind g.flags ∷ [])) at 4 g.items ≡ put l at (bytes_of (written g))
unfolding bytes_of written
record-put g l at n e =
    let head : ℕ → List ℕ = λ k. k / 256 ∷ k % 256 ∷ type_for g.kind ∷ flags_of g.kind g.flags ∷ [] in
    put-items l at 4 (head n) g.items refl ∙ ap (λ (k : ℕ). put l at (head k ++ join stored g.items)) e
