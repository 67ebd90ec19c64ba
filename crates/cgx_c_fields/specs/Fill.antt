-- The fields of a record in a C caller's view. Definitions only.
use Rattle.std.specs.Prelude.{◌≡◌, List, ℕ, ◌+◌, take, drop, None, Option}
use Rattle.cgx_spec.specs.declared.Kind.{Kind}
use Rattle.cgx_spec.specs.Numbers.{long_of}
use Rattle.cgx_spec.specs.Walking.{rec_at}
use Rattle.cgx_format_kinds.specs.declared.Fields.{Fields}
use Rattle.cgx_format_bodies.specs.Bodies.{body_fault}
use Rattle.buffers.specs.Put.{put}
use Rattle.cgx_read_fields.specs.Views.{ReadAt}
use Rattle.cgx_c_views.specs.ViewWords.{pair_word, field_words}

-- The word of the two longs from byte b on.
abbrev pub pair_at : List ℕ → ℕ → ℕ
pair_at f b = pair_word (long_of (take 4 (drop b f))) (long_of (take 4 (drop (b + 4) f)))

-- Of the record of `size` bytes at an offset of f: from the words w₀ of a view to the words w₁.
pub record Filled (k : Kind) (fl : ℕ) (f : List ℕ) (at size : ℕ) (w₀ w₁ : List ℕ) : Type 0 where
  -- There are fields that are the record's,
  pub fields : Fields
  pub read : ReadAt k fl f at size fields
  -- and their words are stored after the six that every kind has.
  pub words : w₁ ≡ put w₀ 6 (field_words f fl at fields)

-- Of a kind whose fields are the same under all flags.
abbrev pub FilledAlike : Kind → List ℕ → ℕ → ℕ → List ℕ → List ℕ → Type 0
FilledAlike k f at size w₀ w₁ = (fl : ℕ) → Filled k fl f at size w₀ w₁

-- A body that is judged, and its fields: from the words w₀ of a view to the words w₁, with the answer r.
pub record FilledIf (k : Kind) (fl : ℕ) (f : List ℕ) (at size : ℕ) (r : Option ℕ) (w₀ w₁ : List ℕ) : Type 0 where
  -- The first of the rules 8 to 12 that it breaks, if any.
  pub fault : r ≡ body_fault k fl (rec_at f at size).body
  -- Its fields are stored if it breaks none; else no word changes.
  pub filled : r ≡ None → Filled k fl f at size w₀ w₁
  pub kept : (r ≡ None → ⊥) → w₁ ≡ w₀
