-- Places in a C caller's memory: the six words of eight bytes that a `cgx_place` of include/cgx.h is made of. Definitions only.
use Rattle.std.specs.Prelude.{Bool, cond, List, [], ◌∷◌, ℕ, ◌+◌, ◌*◌, ◌/◌, ◌%◌, eqb, get_or, None, Option, Some}
use Rattle.cgx_format_cursor.specs.declared.Cursor.{Cursor}
use Rattle.cgx_format_cursor.specs.Cursors.{first_of}

unfoldable pub bit : Bool → ℕ
bit b = cond b 1 0

-- What has been read: LIBRARY; a STRUCT and after it only CPRPTY; ENDLIB.
unfoldable pub seen_word : Bool → Bool → Bool → ℕ
seen_word library fresh ended = bit library + 2 * bit fresh + 4 * bit ended

-- The six words of a place; 0 is none.
unfoldable pub cursor_words : Cursor → List ℕ
cursor_words c =
    let s = c.state in
    c.at ∷ s.cell ∷ s.layer ∷ s.first ∷ s.count ∷ seen_word s.library s.fresh s.ended ∷ []

-- The place that six words say. Where no PROPERTY awaits its object the first is not looked at, nor are the higher bits of the last word.
unfoldable pub cursor_in : List ℕ → Cursor
cursor_in w =
    record {
      at = get_or w 0 0;
      state =
          record {
            cell = get_or w 1 0;
            layer = get_or w 2 0;
            first = first_of (get_or w 3 0) (get_or w 4 0) 0;
            count = get_or w 4 0;
            library = eqb (get_or w 5 0 % 2) 1;
            fresh = eqb (get_or w 5 0 / 2 % 2) 1;
            ended = eqb (get_or w 5 0 / 4 % 2) 1;
          };
    }

-- What a caller's number is after a refusal that names this offset, or none.
abbrev pub told_at : Option ℕ → ℕ → ℕ
told_at None old = old
told_at (Some n) old = n
