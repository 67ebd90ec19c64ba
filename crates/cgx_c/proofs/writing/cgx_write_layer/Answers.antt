-- The answer of the call, left in lent memory.
use Rattle.std.specs.Prelude.{None}
use mathlib.Core.Path.{◌≡◌}
use Rattle.cgx_write_given.specs.Given.{given_layer}
use Rattle.cgx_c_writer.specs.Parts.{layer_no_in, data_type_in}
use Rattle.cgx_write_given.specs.Typed.{WellTyped}
use Rattle.cgx_write_given.specs.Writing.{call_in}
use Rattle.cgx_c.proofs.Calls.{called}
use Rattle.cgx_c.proofs.writing.cgx_write_layer.Goals as goal

pub returns : goal.returns
returns c = let s = c.args in
    let q : _ ≡ given_layer (layer_no_in s.id.now) (data_type_in s.id.now) None = λ i. given_layer (c.layer_no.ensures i) (c.data_type.ensures i) None in
    let both = called (call_in s.buf.now) WellTyped s.writer.now s.at.now _ c.settle.ensures c.writer_of.ensures (c.layer.ensures.buf_after, c.layer.ensures.typed) q in record { buf_after = both.0; typed = both.1 }
