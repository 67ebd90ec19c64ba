-- Four bytes that are not `cgx`, and then a LAYER: named `ab`, with an empty name, without a name, and with a name that is no string. The definitions compute them.
use mathlib.Core.Path.{◌≡◌, refl}
use mathlib.Core.List.{List, [], ◌∷◌}
use Prim.Native.Nat.{ℕ}
use Rattle.cgx_spec.specs.Strings.{text_of, padded, same, good_string}
use Rattle.cgx_spec.specs.Fields.{fits, width, rule_of, good, pieces, lengths_fit, keeps}
use Rattle.cgx_spec.specs.Kinds.{layout}
use Rattle.cgx_spec.specs.Records.{pieces_of}
use Rattle.cgx_spec.specs.Files.{cut_body, cut}
use Rattle.cgx_ask_layer_name.specs.declared.NameAnswer.TheVariants.{NoLayer, OfFile, OfSubstitute}
use Rattle.cgx_ask_layer_name.specs.Layers.{kept_layer, cut_layer, good_layer, name_in, named, name_answer_of}

-- A LAYER of this size with these bytes of a name, at offset 4.
abbrev file : ℕ → List ℕ → List ℕ
file n name = 0 ∷ 0 ∷ 0 ∷ 0 ∷ 0 ∷ n ∷ 4 ∷ 0 ∷ 0 ∷ 1 ∷ 0 ∷ 0 ∷ name

pub record Examples : Type 0 where
  pub of_two : name_answer_of (file 12 (0x61 ∷ 0x62 ∷ 0 ∷ 0 ∷ [])) 4 ≡ OfFile 12 2
  pub empty : name_answer_of (file 10 (0 ∷ 0 ∷ [])) 4 ≡ OfSubstitute
  pub absent : name_answer_of (file 8 []) 4 ≡ OfSubstitute
  pub no-string : name_answer_of (file 12 (0x61 ∷ 0 ∷ 0 ∷ 0 ∷ [])) 4 ≡ NoLayer
  pub beyond : name_answer_of (file 8 []) 14 ≡ NoLayer

pub examples : Examples
unfolding text_of padded same good_string fits width rule_of good pieces lengths_fit keeps layout pieces_of cut_body cut kept_layer cut_layer good_layer name_in named name_answer_of
examples = record { of_two = refl; empty = refl; absent = refl; no-string = refl; beyond = refl }
