-- Stores of a run of bytes into a buffer. Definitions only.
use Rattle.std.specs.Prelude.{List, [], ◌∷◌, ◌++◌, ℕ, ℤ}
use Rattle.std.proofs.lemmas.List.Edits.{sets}
use Rattle.cgx_spec.specs.Numbers.{long_bytes}

-- The buffer l with the bytes vs stored from an offset on; every other byte is as it was.
unfoldable pub put : List ℕ → ℕ → List ℕ → List ℕ
put l at vs = sets l at vs

-- The bytes of longs, one after another.
unfoldable pub longs_bytes : List ℤ → List ℕ
longs_bytes [] = []
longs_bytes (z ∷ zs) = long_bytes z ++ longs_bytes zs
