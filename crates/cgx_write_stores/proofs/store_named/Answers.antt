-- The header, the two numbers and the name, one after the other, are the bytes of the record.
use Rattle.std.specs.Prelude.{Some}
use mathlib.Core.Path.{◌∙◌}
use mathlib.Core.List.{◌++◌}
use Prim.Native.Nat.{◌+◌}
use native.Mathlib.Omega.{arith}
use Rattle.cgx_spec.specs.Numbers.{short_bytes}
use Rattle.cgx_spec.specs.Strings.{padded}
use Rattle.buffers.proofs.Padding.{length-padded}
use Rattle.cgx_write_given.specs.Given.{stored, given_layer}
use Rattle.cgx_write_given.proofs.Sizes.{named-size}
use Rattle.cgx_write_given.proofs.Widths.{record-put}
use Rattle.cgx_write_stores.proofs.Chain.{onto, two-shorts}
use Rattle.cgx_write_stores.proofs.store_named.Goals as goal

pub put_text-requires : goal.put_text-requires
put_text-requires c = omega (arith, length-padded c.args.name.now)

pub returns : goal.returns
unfolding given_layer stored
returns c = let a = c.args in
    onto (a.at + 8) (padded a.name.now) c.put_text.ensures
    (onto (a.at + 4) (short_bytes a.number.0 ++ short_bytes a.datatype.0) c.put_layer_numbers.ensures c.put_header.ensures ∙ two-shorts _ a.at a.number.0 a.datatype.0)
    ∙ record-put (given_layer a.number a.datatype (Some a.name.now)) a.buf.now a.at c.named_size.result (c.named_size.ensures ∙ named-size a.number a.datatype a.name.now)
