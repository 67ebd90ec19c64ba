-- Req 08: of a wire's record the end style decides the flags byte, and of the checks 7 alone. Assumes nothing.
use Rattle.std.specs.Prelude.{true, None, Option, Some}
use Rattle.std.proofs.lemmas.Bool.{true≢false}
use mathlib.Core.Path.{◌≡◌, refl, sym, ap, ◌∙◌}
use mathlib.Core.List.{List, [], ◌∷◌}
use Prim.Native.Nat.{ℕ, ◌+◌, ◌≤◌}
use native.Mathlib.Omega.{arith}
use borrow.Author.Tests.{le-leb}
use lib.IntN.{ℤ}
use lib.ListN.{length}
use Rattle.cgx_spec.specs.Numbers.{untwos, short_bytes, long_bytes}
use Rattle.cgx_spec.specs.Kinds.{layout}
use Rattle.cgx_spec.specs.Records.{bytes_of, context_after, broken}
use Rattle.cgx_spec.specs.Walking.{place_after}
use Rattle.buffers.specs.Put.{put, longs_bytes}
use Rattle.buffers.proofs.Puts.{put-within}
use Rattle.cgx_write_given.specs.declared.Writer.{Writer}
use Rattle.cgx_write_given.specs.Given.{Given, stored, enough_given, keeps_given, meant, written, given_wire}
use Rattle.cgx_write_given.specs.Writing.{offset_of, writer_after, rules_of, checks, answered, planned, is_taken, call_in}
use Rattle.cgx_write_given.specs.Demands.{WireEnds}
use Rattle.cgx_write_given.proofs.Calls.{by-outcome}

stated : (style : ℕ) (width : ℤ) (points : List ℤ) → let g = given_wire (Some style) width points in ((written g).flags ≡ style) × ((meant g).flags ≡ style)
unfolding given_wire written meant
stated style width points = (refl, refl)

stored_is : (buf : List ℕ) (w : Writer) (g : Given) → is_taken (call_in buf w g).answer ≡ true → (call_in buf w g).buffer ≡ put buf (offset_of w) (bytes_of (written g))
stored_is buf w g = by-outcome (λ o. is_taken o.answer ≡ true → o.buffer ≡ put buf (offset_of w) (bytes_of (written g))) buf w g (λ e z. refl) (λ m e z. absurd (true≢false (sym z)))

module _ (w : Writer) (width : ℤ) (points : List ℤ) where
  abbrev wire : ℕ → Given
  wire style = given_wire (Some style) width points

  -- no style is in an answer
  told : (s t : ℕ) (o : Option ℕ) → answered w (wire s) o ≡ answered w (wire t) o
  unfolding answered writer_after place_after context_after written given_wire
  told s t None = refl
  told s t (Some n) = refl

  checked : (n s t : ℕ) → s ≤ 2 → t ≤ 2 → broken (checks n w (wire s)) ≡ broken (checks n w (wire t))
  unfolding checks rules_of enough_given keeps_given layout written given_wire
  checked n s t hs ht = rw (le-leb s 2 hs, le-leb t 2 ht)

  answer : (buf : List ℕ) (s t : ℕ) → s ≤ 2 → t ≤ 2 → (call_in buf w (wire s)).answer ≡ (call_in buf w (wire t)).answer
  unfolding call_in planned
  answer buf s t hs ht = ap (answered w (wire s)) (checked (length buf) s t hs ht) ∙ told s t (broken (checks (length buf) w (wire t)))

  restyled : (buf : List ℕ) (s t : ℕ) → put (put buf (offset_of w) (bytes_of (written (wire t)))) (offset_of w + 3) (s ∷ []) ≡ put buf (offset_of w) (bytes_of (written (wire s)))
  unfolding put bytes_of written given_wire
  restyled buf s t = put-within buf (offset_of w) 3 (bytes_of (written (wire t))) (s ∷ []) (omega arith)

  buffer : (buf : List ℕ) (s t : ℕ) → let o = call_in buf w (wire s) in let o' = call_in buf w (wire t) in is_taken o.answer ≡ true → is_taken o'.answer ≡ true → o.buffer ≡ put o'.buffer (offset_of w + 3) (s ∷ [])
  buffer buf s t z z' = stored_is buf w (wire s) z ∙ sym (restyled buf s t) ∙ ap (λ (l : List ℕ). put l (offset_of w + 3) (s ∷ [])) (sym (stored_is buf w (wire t) z'))

pub wire-ends : WireEnds
unfolding given_wire written stored bytes_of longs_bytes long_bytes short_bytes untwos
wire-ends =
    record {
      unstated = λ width points. refl;
      stated = stated;
      answer = λ buf w s t width points. answer w width points buf s t;
      buffer = λ buf w s t width points. buffer w width points buf s t;
      specimen = refl;
    }
