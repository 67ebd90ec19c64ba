-- `cgx_read_fields::box_of` is right: the repeat is the whole body. Assumes nothing.
use mathlib.Core.Path.{refl}
use native.Mathlib.Omega.{arith}
use Rattle.cgx_spec.specs.Fields.{width, value, values}
use Rattle.cgx_spec.specs.Kinds.{layout}
use Rattle.cgx_format_kinds.specs.Meant.{field_values, fields_kind}
use Rattle.cgx_read_fields.specs.Views.{FieldsAt, pieces_at, values_at}
use Prim.Native.Nat.{◌+◌, ◌-◌}
use Rattle.cgx_read_fields.proofs.Parts.{◌then◌, list-value}
use Rattle.cgx_read_fields.proofs.box_of.Goals as goal

pub returns : goal.returns
unfolding FieldsAt field_values fields_kind values_at layout pieces_at width values value
returns c fl = let s = c in
    record {
      meant =
          list-value 16 s.args.f.now (s.args.at + 4) (s.args.size - 4) c.list_of-boxes.result c.list_of-boxes.ensures
          then refl;
      kind-is = refl;
      located = (c.list_of-boxes.ensures.0, omega arith);
    }
