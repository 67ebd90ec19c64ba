-- The answer of the call, left in lent memory.
use Rattle.std.specs.Prelude.{Some}
use mathlib.Core.Path.{◌≡◌}
use mir.Syntax.{w32}
use Rattle.numbers.proofs.Signed.{back}
use Rattle.cgx_write_given.specs.Given.{given_wire}
use Rattle.cgx_write_given.specs.Typed.{WellTyped}
use Rattle.cgx_write_given.specs.Writing.{call_in}
use Rattle.cgx_c.proofs.Calls.{called}
use Rattle.cgx_c.proofs.writing.cgx_write_styled_wire_longs.Goals as goal

pub returns : goal.returns
returns c = let t = c in
    let s = t.args in
    let q : _ ≡ given_wire (Some s.style) s.width s.longs.now = λ i. given_wire (Some s.style) (back w32 {z = s.width} t.ranges.width.sfits i) s.longs.now in
    let both = called (call_in s.buf.now) WellTyped s.writer.now s.at.now _ c.settle.ensures c.writer_of.ensures (c.wire.ensures.buf_after, c.wire.ensures.typed) q in record { buf_after = both.0; typed = both.1 }
