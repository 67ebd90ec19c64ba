-- The place of a writer after a record is that of a walk that has read it, and is not forged. Assumes nothing.
use Rattle.std.specs.Prelude.{Option, Some}
use mathlib.Core.Path.{◌≡◌, sym, ap, ◌∙◌, subst}
use Prim.Native.Nat.{ℕ, ◌+◌, ◌%◌, ◌≤◌, ◌<◌}
use native.Mathlib.Omega.{arith}
use Rattle.cgx_spec.specs.declared.Kind.{Kind}
use Rattle.cgx_spec.specs.declared.Context.{Context}
use Rattle.cgx_spec.specs.Kinds.{kind_of}
use Rattle.cgx_spec.specs.Order.{next}
use Rattle.cgx_spec.specs.Records.{size, context_after}
use Rattle.cgx_spec.specs.Walking.{place_after}
use Rattle.cgx_spec.proofs.Steps.{Unforged, within-next}
use Rattle.cgx_format_cursor.specs.Cursors.{place_in, state_of, cursor_of}
use Rattle.cgx_format_cursor.proofs.Laws.{next-in}
use Rattle.cgx_write_given.specs.declared.Writer.{Writer}
use Rattle.cgx_write_given.specs.Given.{Given, written}
use Rattle.cgx_write_given.specs.Writing.{offset_of, context_of, place_of, writer_after}
use Rattle.cgx_write_given.proofs.Records.{kind-written}

-- the writer after a record, as the code has it
pub after_is : (w : Writer) (g : Given) → writer_after w g ≡ record { cursor = record { at = offset_of w + size (written g); state = state_of (next (context_of w) (offset_of w) (Some g.kind)) } }
unfolding writer_after cursor_of place_after context_after
after_is w g = ap (λ (o : Option Kind). record { cursor = record { at = offset_of w + size (written g); state = state_of (next (context_of w) (offset_of w) o) } }) (kind-written g)

-- no record has offset 0, so that a state keeps it
pub place_after_lem : (w : Writer) (g : Given) → 0 < offset_of w → place_of (writer_after w g) ≡ place_after (record { at = offset_of w; context = context_of w; rec = written g })
unfolding place_in place_after context_after
place_after_lem w g h =
    ap place_of (after_is w g)
    ∙ ap (λ (c : Context). record { at = offset_of w + size (written g); context = c }) (next-in w.cursor.state (offset_of w) g.kind h ∙ sym (ap (next (context_of w) (offset_of w)) (kind-written g)))

pub unforged-after : (n : ℕ) (w : Writer) (g : Given) → Unforged n (place_of w) → size (written g) % 2 ≡ 0 → offset_of w + size (written g) ≤ n → Unforged n (place_of (writer_after w g))
unfolding place_in place_after context_after
unforged-after n w g h e l =
    let low : 4 ≤ offset_of w = h.low in
    subst (Unforged n) (sym (place_after_lem w g (omega arith)))
    (record {
      low = omega arith;
      even = (let x = h.even in omega arith);
      high = l;
      within = within-next (context_of w) (offset_of w) (offset_of w + size (written g)) (kind_of (written g).type) (omega arith) h.within;
    })
