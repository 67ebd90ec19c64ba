-- `cgx_read_fields::struct_of` is right: each field is read where the layout has it. Assumes nothing.
use mathlib.Core.Path.{refl}
use native.Mathlib.Omega.{arith}
use Rattle.cgx_spec.specs.Fields.{width, value, values}
use Rattle.cgx_spec.specs.Kinds.{layout}
use Rattle.cgx_format_kinds.specs.Meant.{field_values, fields_kind}
use Rattle.cgx_read_fields.specs.Views.{FieldsAt, pieces_at, values_at}
use Rattle.cgx_read_fields.proofs.Parts.{◌then◌}
use Rattle.cgx_read_fields.proofs.struct_of.Goals as goal

pub returns : goal.returns
unfolding FieldsAt field_values fields_kind values_at layout pieces_at width values value
returns c fl = record {
  meant =
      c.date_at-created.ensures
      then c.date_at-modified.ensures
      then c.text_at-name.ensures.0
      then refl;
  kind-is = refl;
  located = (c.text_at-name.ensures.1.0, omega arith);
}
