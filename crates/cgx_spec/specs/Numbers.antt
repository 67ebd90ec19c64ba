-- 01, "Bytes and numbers": bytes, whole numbers of several bytes, two's complement. Definitions only.
use Rattle.std.specs.Prelude.{cond, List, [], ◌∷◌, ℕ, zero, suc, ◌+◌, ◌*◌, ◌-◌, ◌/◌, ◌%◌, ◌^◌, ◌<◌, ltb, ℤ, pos, negsuc, get_or}
use Rattle.std.proofs.Math.IntN.{sub_ℕ}

-- Every element of the list is a byte.
abbrev pub Bytes : List ℕ → Type 0
Bytes l = (i : ℕ) → get_or l i 0 < 256

-- ---- "Multi-byte numbers have the high byte first."

-- The number a with the bytes written after it.
abbrev pub after : ℕ → List ℕ → ℕ
after a [] = a
after a (b ∷ bs) = after (a * 256 + b) bs

-- The number of the bytes.
abbrev pub number : List ℕ → ℕ
number bs = after 0 bs

-- The n low bytes of x.
abbrev pub digits : ℕ → ℕ → List ℕ
digits zero x = []
digits (suc zero) x = x % 256 ∷ []
digits (suc (suc n)) x = x / 256 ^ suc n % 256 ∷ digits (suc n) x

-- ---- "Shorts (2 bytes) and longs (4 bytes) are two's complement."

-- Of the 2 · half numbers those from `half` on mean the negative ones, n for n − 2 · half.
unfoldable pub twos : ℕ → ℕ → ℤ
twos half n = cond (ltb n half) (pos n) (sub_ℕ n (2 * half))

unfoldable pub short_of : List ℕ → ℤ
short_of b = twos (2 ^ 15) (number b)

unfoldable pub long_of : List ℕ → ℤ
long_of b = twos (2 ^ 31) (number b)

-- The longs of a body, one after another.
unfoldable pub longs_of : List ℕ → List ℤ
longs_of [] = []
longs_of (a ∷ []) = []
longs_of (a ∷ b ∷ []) = []
longs_of (a ∷ b ∷ c ∷ []) = []
longs_of (a ∷ b ∷ c ∷ d ∷ bs) = long_of (a ∷ b ∷ c ∷ d ∷ []) ∷ longs_of bs

-- From −half up to below half.
abbrev pub InRange : ℕ → ℤ → Type 0
InRange half (pos n) = n < half
InRange half (negsuc n) = n < half

-- The other way: the number that means z, and its bytes.
unfoldable pub untwos : ℕ → ℤ → ℕ
untwos half (pos n) = n
untwos half (negsuc n) = 2 * half - suc n

unfoldable pub short_bytes : ℤ → List ℕ
short_bytes z = digits 2 (untwos (2 ^ 15) z)

unfoldable pub long_bytes : ℤ → List ℕ
long_bytes z = digits 4 (untwos (2 ^ 31) z)
