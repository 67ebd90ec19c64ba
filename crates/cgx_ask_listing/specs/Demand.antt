-- What is proved of the lister's definitions: its digits, and 01's own listing. Statements only.
use Rattle.std.specs.Prelude.{List, [], ◌∷◌, ◌≡◌, ℕ, suc, ◌+◌, ◌*◌, ◌-◌, ◌≤◌, length, get_or}
use Rattle.cgx_spec.specs.Verdicts.{refused}
use Rattle.cgx_spec.specs.Numbers.{Bytes}
use Rattle.cgx_spec.specs.Records.{Rec}
use Rattle.cgx_spec.specs.Files.{opening, Accepted, records_of}
use Rattle.cgx_spec.specs.Specimens.{drawing}
use Rattle.cgx_ask_listing.specs.Ascii.{ascii}
use Rattle.cgx_ask_listing.specs.Listing.{decimal, last_line, listing_of}

-- The number that digits say, after those that say n.
unfoldable pub number_after : ℕ → List ℕ → ℕ
number_after n [] = n
number_after n (d ∷ ds) = number_after (10 * n + (d - 48)) ds

-- A record of type t whose body has n bytes.
abbrev pub Shaped : ℕ → ℕ → Rec → Type 0
Shaped t n r = (r.type ≡ t) × (length r.body ≡ n)

abbrev pub six_lines : List ℕ
six_lines = ascii "4 LIBRARY\n42 STRUCT\n64 LAYER\n72 BOX\n92 ENDLIB\nok\n"

pub record ListerDemand : Type 0 where
  -- The digits of a number say that number.
  pub digits-say : (n : ℕ) → number_after 0 (decimal n) ≡ n
  -- Only the number 0 begins with a zero.
  pub no-zero-first : (n : ℕ) → get_or (decimal n) 0 0 ≡ 48 → n ≡ 0
  -- "For LIBRARY named `m`, STRUCT `a`, unnamed LAYER, one box, ENDLIB (96 bytes, no other record) all of its output is:" of every such file,
  pub six-lines : (f : List ℕ) (l s y b e : Rec) → Bytes f → Accepted f → records_of f ≡ l ∷ s ∷ y ∷ b ∷ e ∷ [] → Shaped 0 34 l → Shaped 1 18 s → Shaped 4 4 y → Shaped 5 16 b → Shaped 10 0 e → listing_of f ≡ six_lines
  -- and of the one that 01's specimens have.
  pub of-drawing : listing_of drawing ≡ six_lines
  -- Of a file that is refused with 1 or 2 only the refusal is printed.
  pub refusal-only : (f : List ℕ) (n : ℕ) → length f ≤ 65536 → opening f ≡ suc n → listing_of f ≡ last_line (refused (suc n) 0)
