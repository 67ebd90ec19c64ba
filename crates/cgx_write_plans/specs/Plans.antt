-- A plan as the code computes it. Definitions only.
use Rattle.std.specs.Prelude.{Bool, not, ◌&&◌, cond, List, [], ◌∷◌, ℕ, ◌+◌, ◌/◌, ◌%◌, leb, eqb, Option, None, Some, Ok, Err}
use Rattle.std.specs.Option.{option_or}
use Rattle.cgx_spec.specs.declared.Kind.{Kind}
use Rattle.cgx_spec.specs.declared.Context.{Context}
use Rattle.cgx_spec.specs.Kinds.{good_flags}
use Rattle.cgx_spec.specs.Order.{allowed, next}
use Rattle.cgx_spec.specs.Records.{broken, rule}
use Rattle.cgx_spec.specs.Walking.{forged}
use Rattle.cgx_format_cursor.specs.Cursors.{state_of}
use Rattle.cgx_format_fields.specs.Zeros.{no_zero}
use Rattle.cgx_write_given.specs.declared.Writer.{Writer}
use Rattle.cgx_write_given.specs.Given.{Given, enough_given, keeps_given}
use Rattle.cgx_write_given.specs.Writing.{Answer, offset_of, context_of, place_of, max_size, named}

-- ---- the rules 7 to 12

-- The first of them that a call breaks, if any.
unfoldable pub given_fault : Given → Option ℕ
given_fault g =
    broken
    (rule 7 (good_flags g.kind g.flags) ∷ rule 8 (enough_given g) ∷ rule 9 (keeps_given 9 g) ∷ rule 10 (keeps_given 10 g) ∷ rule 11 (keeps_given 11 g)
    ∷ rule 12 (keeps_given 12 g)
    ∷ [])

-- 11 where a text has a zero byte.
abbrev pub text_fault : List ℕ → Option ℕ
text_fault t = cond (no_zero t) None (Some 11)

-- Of a wire with this style and so many longs.
unfoldable pub wire_fault : ℕ → ℕ → Option ℕ
wire_fault style n = cond (leb style 2) (cond (eqb (n % 2) 0 && leb 1 (n / 2)) None (Some 8)) (Some 7)

-- ---- the answer

-- May a record of this kind be written after this context?
abbrev pub may_follow : Context → Kind → Bool
may_follow c k = not c.ended && allowed c (Some k)

-- The number of the first check that fails of a record of a kind and a size, if any; `fault` is the first of the rules 7 to 12 that is broken, if any.
unfoldable pub checked : ℕ → Writer → Kind → Option ℕ → ℕ → Option ℕ
checked n w k fault size =
    cond (forged n (place_of w)) (Some 16)
    (cond (may_follow (context_of w) k) (option_or fault (cond (leb size max_size) (cond (leb (offset_of w + size) n) None (Some 14)) (Some 15))) (Some 6))

-- The writer after the record.
abbrev pub moved_by : Writer → Kind → ℕ → Writer
moved_by w k size = record { cursor = record { at = offset_of w + size; state = state_of (next (context_of w) (offset_of w) (Some k)) } }

-- What is said where no check fails, or the one with this number.
unfoldable pub said : Writer → Kind → ℕ → Option ℕ → Answer
said w k size None = Ok (moved_by w k size)
said w k size (Some number) = Err (record { number = number; at = named number (offset_of w) })

unfoldable pub concluded : ℕ → Writer → Kind → Option ℕ → ℕ → Answer
concluded n w k fault size = said w k size (checked n w k fault size)
