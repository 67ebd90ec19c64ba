-- What is proved of a place in a C caller's memory: it is read back as it was stored. Statements only.
use Rattle.std.specs.Prelude.{◌≡◌, List, ℕ, length}
use Rattle.cgx_format_cursor.specs.declared.Cursor.{Cursor}
use Rattle.cgx_format_cursor.specs.Cursors.{place_in, cursor_of}
use Rattle.cgx_c_places.specs.Words.{cursor_words, cursor_in}

pub record WordsDemand : Type 0 where
  -- A caller's words, whatever they are, say the one cursor of a place,
  pub read : (w : List ℕ) → cursor_in w ≡ cursor_of (place_in (cursor_in w))
  -- and what is stored of such a cursor says it again: a walk goes on from there.
  pub back : (c : Cursor) → c ≡ cursor_of (place_in c) → cursor_in (cursor_words c) ≡ c
  -- Every place has six words, as many as a `cgx_place` of include/cgx.h.
  pub six : (c : Cursor) → length (cursor_words c) ≡ 6
  -- Two places with the same words are one.
  pub one : (c d : Cursor) → c ≡ cursor_of (place_in c) → d ≡ cursor_of (place_in d) → cursor_words c ≡ cursor_words d → c ≡ d
