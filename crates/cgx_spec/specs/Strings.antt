-- 01, "Bytes and numbers": strings. Definitions only.
use Rattle.std.specs.Prelude.{Bool, true, false, ◌&&◌, List, [], ◌∷◌, ℕ, zero, suc, eqb}

-- "Its text has no zero byte": the bytes before the first zero.
unfoldable pub text_of : List ℕ → List ℕ
text_of [] = []
text_of (zero ∷ bs) = []
text_of (suc b ∷ bs) = suc b ∷ text_of bs

-- "One zero byte follows an odd-length text, two follow an even-length text."
unfoldable pub padded : List ℕ → List ℕ
padded [] = 0 ∷ 0 ∷ []
padded (a ∷ []) = a ∷ 0 ∷ []
padded (a ∷ b ∷ t) = a ∷ b ∷ padded t

-- The same bytes.
unfoldable pub same : List ℕ → List ℕ → Bool
same [] [] = true
same [] (b ∷ bs) = false
same (c ∷ cs) [] = false
same (c ∷ cs) (b ∷ bs) = eqb c b && same cs bs

-- A field is a string where it is its text with the zero bytes, and nothing else. "Any other bytes, half a UTF-8 letter included, are accepted."
unfoldable pub good_string : List ℕ → Bool
good_string b = same b (padded (text_of b))
