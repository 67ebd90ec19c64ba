-- The words of a place, and back: they say that place. Assumes nothing.
use mathlib.Core.Path.{◌≡◌, refl, sym, ap, ◌∙◌}
use mathlib.Core.Bool.{Bool, true, false}
use mathlib.Core.List.{List}
use Prim.Native.Nat.{ℕ, zero, suc, ◌/◌, ◌%◌}
use lib.Dec.{eqb, eqb-suc-zero}
use lib.ListN.{get_or}
use Rattle.cgx_format_cursor.specs.declared.Cursor.{Cursor}
use Rattle.cgx_format_cursor.specs.Cursors.{run_in, context_in, place_in, state_of, cursor_of, run_first, first_of}
use Rattle.cgx_format_cursor.proofs.Laws.{number-back, run-first, run-count}
use Rattle.cgx_c_places.specs.Words.{bit, seen_word, cursor_words, cursor_in}

-- ---- a run of none has no first

first-of-run : (first count : ℕ) → first_of first count 0 ≡ run_first (run_in (first_of first count 0) count)
unfolding first_of run_in
first-of-run first zero = refl
first-of-run first (suc n) = rw (eqb-suc-zero n) refl

-- ---- a caller's words

pub cursor-read : (w : List ℕ) → cursor_in w ≡ cursor_of (place_in (cursor_in w))
unfolding cursor_in cursor_of state_of place_in context_in
cursor-read w =
    λ i. record {
      at = get_or w 0 0;
      state =
          record {
            cell = number-back (get_or w 1 0) i;
            layer = number-back (get_or w 2 0) i;
            first = first-of-run (get_or w 3 0) (get_or w 4 0) i;
            count = run-count (first_of (get_or w 3 0) (get_or w 4 0) 0) (get_or w 4 0) i;
            library = eqb (get_or w 5 0 % 2) 1;
            fresh = eqb (get_or w 5 0 / 2 % 2) 1;
            ended = eqb (get_or w 5 0 / 4 % 2) 1;
          };
    }

-- ---- and back

record SeenBack (l f e : Bool) : Type 0 where
  library : eqb (seen_word l f e % 2) 1 ≡ l
  fresh : eqb (seen_word l f e / 2 % 2) 1 ≡ f
  ended : eqb (seen_word l f e / 4 % 2) 1 ≡ e

seen_back : (l f e : Bool) → SeenBack l f e
unfolding seen_word bit
seen_back false false false = record { library = refl; fresh = refl; ended = refl }
seen_back false false true = record { library = refl; fresh = refl; ended = refl }
seen_back false true false = record { library = refl; fresh = refl; ended = refl }
seen_back false true true = record { library = refl; fresh = refl; ended = refl }
seen_back true false false = record { library = refl; fresh = refl; ended = refl }
seen_back true false true = record { library = refl; fresh = refl; ended = refl }
seen_back true true false = record { library = refl; fresh = refl; ended = refl }
seen_back true true true = record { library = refl; fresh = refl; ended = refl }

-- The first of a cursor that is a place's.
first_back : (c : Cursor) → c ≡ cursor_of (place_in c) → first_of c.state.first c.state.count 0 ≡ c.state.first
unfolding cursor_of state_of place_in context_in
first_back c q = run-first c.state.first c.state.count ∙ sym (ap (λ (d : Cursor). d.state.first) q)

pub cursor-back : (c : Cursor) → c ≡ cursor_of (place_in c) → cursor_in (cursor_words c) ≡ c
unfolding cursor_in cursor_words
cursor-back c q =
    let s = c.state in
    let b = seen_back s.library s.fresh s.ended in
    λ i. record {
      at = c.at;
      state = record { cell = s.cell; layer = s.layer; first = first_back c q i; count = s.count; library = b.library i; fresh = b.fresh i; ended = b.ended i };
    }
