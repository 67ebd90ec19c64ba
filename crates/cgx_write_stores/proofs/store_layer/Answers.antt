-- The header and the two numbers, one after the other, are the bytes of the record.
use Rattle.std.specs.Prelude.{None}
use mathlib.Core.Path.{sym, ◌∙◌}
use mathlib.Core.List.{◌++◌}
use Prim.Native.Nat.{◌+◌}
use Rattle.cgx_spec.specs.Numbers.{short_bytes}
use Rattle.buffers.proofs.Puts.{put-nil}
use Rattle.cgx_write_given.specs.Given.{stored, given_layer}
use Rattle.cgx_write_given.proofs.Sizes.{layer-size}
use Rattle.cgx_write_given.proofs.Widths.{record-put}
use Rattle.cgx_write_stores.proofs.Chain.{onto, two-shorts}
use Rattle.cgx_write_stores.proofs.store_layer.Goals as goal

pub returns : goal.returns
unfolding given_layer stored
returns c = let a = c.args in
    (onto (a.at + 4) (short_bytes a.number.0 ++ short_bytes a.datatype.0) c.put_layer_numbers.ensures c.put_header.ensures ∙ two-shorts _ a.at a.number.0 a.datatype.0) ∙ sym (put-nil _ (a.at + 8))
    ∙ record-put (given_layer a.number a.datatype None) a.buf.now a.at 8 (layer-size a.number a.datatype)
