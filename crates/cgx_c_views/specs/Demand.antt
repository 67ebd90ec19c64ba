-- What is proved of a view in a C caller's memory: all of its words are stored there, and its reals are those of the record. Statements only.
use Rattle.std.specs.Prelude.{List, ◌≡◌, ℕ, ◌≤◌, length, take, drop, get_or, None, Option, Some}
use Rattle.cgx_spec.specs.Reals.{answer}
use Rattle.cgx_format_kinds.specs.declared.Fields.{Fields}
use Rattle.cgx_format_kinds.specs.declared.Fields.TheVariants.{Library, Struct, Cprpty, Property, Layer, Box, Poly, Wire, Text, Sref, Endlib}
use Rattle.cgx_format_kinds.specs.declared.View.{View}
use Rattle.buffers.specs.Put.{put}
use Rattle.cgx_read_fields.specs.Views.{FieldsAt}
use Rattle.cgx_c_views.specs.ViewWords.{view_words}
use Rattle.cgx_spec.specs.declared.Real.{Real}

-- A real that an SREF may not have is the answer of the word x, which is 0 where there is none.
abbrev pub OptionalHeld : ℕ → Option Real → Type 0
OptionalHeld x None = x ≡ 0
OptionalHeld x (Some r) = r ≡ answer x

-- The reals of a record are the answers of words of its view: munit and uunit of words 6 and 7, angle and magnif of words 7 and 8.
abbrev pub RealsHeld : List ℕ → Fields → Type 0
RealsHeld w (Library l) = (l.munit ≡ answer (get_or w 6 0)) × (l.uunit ≡ answer (get_or w 7 0))
RealsHeld w (Struct s) = Unit {0}
RealsHeld w (Cprpty p) = Unit {0}
RealsHeld w (Property p) = Unit {0}
RealsHeld w (Layer l) = Unit {0}
RealsHeld w (Box b) = Unit {0}
RealsHeld w (Poly p) = Unit {0}
RealsHeld w (Wire x) = Unit {0}
RealsHeld w (Text t) = Unit {0}
RealsHeld w (Sref s) = OptionalHeld (get_or w 7 0) s.angle × OptionalHeld (get_or w 8 0) s.magnif
RealsHeld w Endlib = Unit {0}

pub record ViewWordsDemand : Type 0 where
  -- A `cgx_view` of include/cgx.h, of 14 words, has room for the words of every kind.
  pub fits : (f : List ℕ) (v : View) → length (view_words f v) ≤ 14
  -- So what a step leaves in those 14 words, whatever they held, begins with all the words of the view,
  pub stored : (w f : List ℕ) (v : View) → length w ≡ 14 → take (length (view_words f v)) (put w 0 (view_words f v)) ≡ view_words f v
  -- and the words after them stay.
  pub others : (w f : List ℕ) (v : View) → length w ≡ 14 → drop (length (view_words f v)) (put w 0 (view_words f v)) ≡ drop (length (view_words f v)) w
  -- The reals of a view whose fields are where the record has them, as a step's are, are the answers of its words.
  pub reals : (f : List ℕ) (v : View) (e : ℕ) → FieldsAt v.flags f v.at e v.fields → RealsHeld (view_words f v) v.fields
