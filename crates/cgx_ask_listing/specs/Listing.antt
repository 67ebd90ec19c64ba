-- 01, "Lister": what is printed of a file, byte by byte. Definitions only.
use Rattle.std.specs.Prelude.{true, false, cond, List, [], ◌∷◌, ◌++◌, ◌≡◌, ℕ, zero, suc, ◌+◌, ◌/◌, ◌%◌, ◌≤◌, ltb, length, drop, None, Option, Some, Ok, Err}
use Rattle.cgx_spec.specs.declared.Kind.{Kind}
use Rattle.cgx_spec.specs.declared.Kind.TheVariants.{Library, Struct, Cprpty, Property, Layer, Box, Poly, Wire, Text, Sref, Endlib}
use Rattle.cgx_spec.specs.Verdicts.{Verdict}
use Rattle.cgx_spec.specs.Verdicts.{accepted, refused}
use Rattle.cgx_spec.specs.Fields.{join}
use Rattle.cgx_spec.specs.Records.{View}
use Rattle.cgx_spec.specs.Files.{views_of, verdict_of}
use Rattle.buffers.specs.Put.{put}
use Rattle.cgx_ask_listing.specs.Ascii.{ascii}

-- ---- numbers and names

-- The digit of a number below 10.
abbrev pub digit : ℕ → List ℕ
digit n = (48 + n) ∷ []

-- The decimal digits of n, the high ones first, in at most k digits.
unfoldable pub decimal_in : ℕ → ℕ → List ℕ
decimal_in zero n = []
decimal_in (suc k) n = elim (ltb n 10) [ true ↦ digit n | false ↦ decimal_in k (n / 10) ++ digit (n % 10) ]

-- No number n has more than n + 1 digits.
unfoldable pub decimal : ℕ → List ℕ
decimal n = decimal_in (suc n) n

-- The names of 01's table.
abbrev pub name_of : Kind → List ℕ
name_of Library = ascii "LIBRARY"
name_of Struct = ascii "STRUCT"
name_of Cprpty = ascii "CPRPTY"
name_of Property = ascii "PROPERTY"
name_of Layer = ascii "LAYER"
name_of Box = ascii "BOX"
name_of Poly = ascii "POLY"
name_of Wire = ascii "WIRE"
name_of Text = ascii "TEXT"
name_of Sref = ascii "SREF"
name_of Endlib = ascii "ENDLIB"

-- ---- lines

-- What comes after the offset.
abbrev pub name_end : Kind → List ℕ
name_end k = ascii " " ++ (name_of k ++ ascii "\n")

-- "offset and name"
unfoldable pub line : ℕ → Kind → List ℕ
line at k = decimal at ++ name_end k

-- "of each good known record"
abbrev pub line_of : View → List ℕ
line_of v = line v.at v.kind

-- "then `ok` or `refused N at P`"
unfoldable pub last_line : Verdict → List ℕ
last_line (Ok _) = ascii "ok\n"
last_line (Err r) = ascii "refused " ++ (decimal r.number ++ (ascii " at " ++ (decimal r.at ++ ascii "\n")))

-- ---- the listing

-- "offset and name of each good known record, then `ok` or `refused N at P`"
unfoldable pub lines_of : List ℕ → List ℕ
lines_of f = join line_of (views_of f) ++ last_line (verdict_of f)

-- "at most 65,536 bytes; a longer one prints only `too large`"
unfoldable pub listing_of : List ℕ → List ℕ
listing_of f = cond (ltb 65536 (length f)) (ascii "too large\n") (lines_of f)

-- What is promised of a listing in a lent buffer: its length, and that it is at the beginning while all bytes after it are as they were.
pub record Listed (f out after : List ℕ) (n : ℕ) : Type 0 where
  pub long : n ≡ length (listing_of f)
  pub inside : n ≤ length out
  pub output : after ≡ listing_of f ++ drop n out

-- ---- parts of it

-- The line of a record of this kind at an offset; an unknown record has none.
abbrev pub line_if : Option Kind → ℕ → List ℕ
line_if None at = []
line_if (Some k) at = line at k

-- The bytes vs are stored from an offset on, all of them, and n is the offset after them.
pub record Stored (out : List ℕ) (at : ℕ) (vs after : List ℕ) (n : ℕ) : Type 0 where
  pub bytes : after ≡ put out at vs
  pub ends : n ≡ at + length vs
  pub inside : n ≤ length out
