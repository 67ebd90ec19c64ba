-- The makers before Req 08, when a wire written without an end style had flush ends. `Demand` compares what they append now with this. Definitions only.
use Rattle.std.specs.Prelude.{List, [], ◌∷◌, ◌++◌, ℕ, ℤ, pos, None, Option, Some}
use Rattle.cgx_spec.specs.declared.Kind.TheVariants.{Wire}
use Rattle.cgx_write_given.specs.Given.{Given, list}
use Rattle.cgx_write_makers.specs.Makers.{corners, card_layer, caption}

-- 01: "A wire may be written without an end style; flush (0) is then used. Two makers rely on that."
abbrev former_style : Option ℕ → ℕ
former_style None = 0
former_style (Some s) = s

-- What a wire's call gave.
abbrev former_wire : Option ℕ → ℤ → List ℤ → Given
former_wire style width points = record { kind = Wire; flags = former_style style; items = list (width ∷ []) ∷ list points ∷ [] }

-- What the makers appended: their wire had no style.
abbrev pub former_card : ℤ → ℤ → ℤ → ℤ → List Given
former_card left bottom right top = card_layer ∷ former_wire None (pos 2) (corners left bottom right top) ∷ []

abbrev pub former_frame : ℤ → ℤ → ℤ → ℤ → List ℕ → List Given
former_frame left bottom right top label = former_card left bottom right top ++ (caption (record { x = left; y = bottom }) label ∷ [])
