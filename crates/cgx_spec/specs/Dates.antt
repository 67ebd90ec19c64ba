-- 01, "Bytes and numbers": dates. Definitions only.
use Rattle.std.specs.Prelude.{Bool, ◌&&◌, List, ◌∷◌, map, ℕ, leb, eqb, ℤ, pos, take, drop, get_or}
use Rattle.cgx_spec.specs.Numbers.{short_of}

-- From lo to hi, both included.
abbrev pub within : ℕ → ℕ → ℕ → Bool
within lo hi n = leb lo n && leb n hi

-- Req 02: "the C library's tm_sec, whose range is 0 to 60". In 01 it was 59.
abbrev pub last_second : ℕ
last_second = 60

-- "month 1 to 12, day 1 to 31, hour 0 to 23, minute 0 to 59", and the second. The year, bytes 0 and 1, is any.
unfoldable pub calendar : List ℕ → Bool
calendar b =
    within 1 12 (get_or b 2 0) && within 1 31 (get_or b 3 0) && within 0 23 (get_or b 4 0) && within 0 59 (get_or b 5 0) && within 0 last_second (get_or b 6 0)

-- "... and a zero byte."
unfoldable pub good_date : List ℕ → Bool
good_date b = calendar b && eqb (get_or b 7 0) 0

-- The date's six numbers, year first.
unfoldable pub date_of : List ℕ → List ℤ
date_of b = short_of (take 2 b) ∷ map pos (take 5 (drop 2 b))
