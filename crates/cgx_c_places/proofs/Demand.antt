-- What is proved of the words of a place, from the laws on them. Assumes nothing.
use mathlib.Core.Path.{◌≡◌, refl, sym, ap, ◌∙◌}
use lib.ListN.{length}
use Rattle.cgx_format_cursor.specs.declared.Cursor.{Cursor}
use Rattle.cgx_format_cursor.specs.Cursors.{place_in, cursor_of}
use Rattle.cgx_c_places.specs.Words.{cursor_words, cursor_in}
use Rattle.cgx_c_places.specs.Demand.{WordsDemand}
use Rattle.cgx_c_places.proofs.Places.{cursor-read, cursor-back}

six : (c : Cursor) → length (cursor_words c) ≡ 6
unfolding cursor_words
six c = refl

one : (c d : Cursor) → c ≡ cursor_of (place_in c) → d ≡ cursor_of (place_in d) → cursor_words c ≡ cursor_words d → c ≡ d
one c d p q e = sym (cursor-back c p) ∙ ap cursor_in e ∙ cursor-back d q

pub words-demand : WordsDemand
words-demand = record { read = cursor-read; back = cursor-back; six = six; one = one }
