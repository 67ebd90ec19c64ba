-- 01, "The name shown for a layer, asked by file and record offset with a substitute text". Definitions only.
use Rattle.std.specs.Prelude.{◌≡◌, Bool, true, false, ◌&&◌, cond, List, [], ℕ, zero, suc, ◌+◌, ◌%◌, ◌≤◌, leb, eqb, length, take, drop, get_or, None, Option, Some, Result, Ok, Err}
use Rattle.cgx_spec.specs.declared.Kind.{Kind}
use Rattle.cgx_spec.specs.declared.Kind.TheVariants.{Library, Struct, Cprpty, Property, Layer, Box, Poly, Wire, Text, Sref, Endlib}
use Rattle.cgx_spec.specs.declared.Refusal.{Refusal}
use Rattle.cgx_spec.specs.Strings.{text_of}
use Rattle.cgx_spec.specs.Fields.{lengths_fit, keeps}
use Rattle.cgx_spec.specs.Records.{Rec, pieces_of}
use Rattle.cgx_spec.specs.Files.{Cut, bad, found, cut}
use Rattle.cgx_spec.specs.Walking.{rec_at}
use Rattle.cgx_read_fields.specs.Views.{Readable}
use Rattle.cgx_ask_layer_name.specs.declared.NameAnswer.{NameAnswer}
use Rattle.cgx_ask_layer_name.specs.declared.NameAnswer.TheVariants.{NoLayer, OfFile, OfSubstitute}

-- ---- a good LAYER

-- "type 4, and rules .. 8 and 11 met"
unfoldable pub kept_layer : Rec → Bool
kept_layer r = eqb r.type 4 && lengths_fit (pieces_of Layer r) && keeps 11 (pieces_of Layer r)

-- A record that is not cut from the bytes has broken rule 4 or 5.
unfoldable pub cut_layer : Cut → Bool
cut_layer (bad n) = false
cut_layer (found r bs) = kept_layer r

-- "an even offset from 4 .. ; nothing before it is read"
unfoldable pub good_layer : List ℕ → ℕ → Bool
good_layer f at = leb 4 at && eqb (at % 2) 0 && cut_layer (cut (drop at f))

-- "a second question, whether a good LAYER stands there, answers 16" where none does.
unfoldable pub layer_answer : List ℕ → ℕ → Result (Unit {0}) Refusal
layer_answer f at = cond (good_layer f at) (Ok tt) (Err (record { number = 16; at = None }))

-- ---- the name

-- The text of the name, after the layer's number and data type: none where the name is absent.
unfoldable pub name_in : Cut → List ℕ
name_in (bad n) = []
name_in (found r bs) = text_of (drop 4 r.body)

-- A name of so many bytes, at an offset of the file; "the whole substitute where the name is absent or empty".
unfoldable pub named : ℕ → ℕ → NameAnswer
named at zero = OfSubstitute
named at (suc k) = OfFile at (suc k)

unfoldable pub name_answer_of : List ℕ → ℕ → NameAnswer
name_answer_of f at = cond (good_layer f at) (named (at + 8) (length (name_in (cut (drop at f))))) NoLayer

-- The text that is shown, of the file and the substitute. No good LAYER: "the empty beginning of the substitute".
unfoldable pub name_answer_text : List ℕ → List ℕ → NameAnswer → List ℕ
name_answer_text f s NoLayer = []
name_answer_text f s (OfFile at len) = take len (drop at f)
name_answer_text f s OfSubstitute = s

-- Where it is: a pointer is a block and an offset in it.
unfoldable pub name_answer_ptr : ℕ × ℕ → ℕ × ℕ → NameAnswer → ℕ × ℕ
name_answer_ptr f s NoLayer = s
name_answer_ptr f s (OfFile at len) = (f.0, f.1 + at)
name_answer_ptr f s OfSubstitute = s

-- ---- what the functions hand on

-- A part of the file that is shown lies in it.
unfoldable pub NameAnswerInside : List ℕ → NameAnswer → Type 0
NameAnswerInside f NoLayer = Unit {0}
NameAnswerInside f (OfFile at len) = at + len ≤ length f
NameAnswerInside f OfSubstitute = Unit {0}

-- A good LAYER of n bytes.
pub record LayerAt (f : List ℕ) (at n : ℕ) : Type 0 where
  pub readable : Readable Layer (get_or f (at + 3) 0) f at n
  pub is : cut (drop at f) ≡ found (rec_at f at n) (drop (at + n) f)
  pub kept : good_layer f at ≡ true

-- A good LAYER of this size, or none.
unfoldable pub LayerSizeIs : List ℕ → ℕ → Option ℕ → Type 0
LayerSizeIs f at None = good_layer f at ≡ false
LayerSizeIs f at (Some n) = LayerAt f at n

-- The kind is LAYER's.
abbrev pub is_layer : Option Kind → Bool
is_layer None = false
is_layer (Some Library) = false
is_layer (Some Struct) = false
is_layer (Some Cprpty) = false
is_layer (Some Property) = false
is_layer (Some Layer) = true
is_layer (Some Box) = false
is_layer (Some Poly) = false
is_layer (Some Wire) = false
is_layer (Some Text) = false
is_layer (Some Sref) = false
is_layer (Some Endlib) = false
