-- `cgx_read_fields::cprpty_of` is right: each field is read where the layout has it. Assumes nothing.
use mathlib.Core.Path.{refl, ◌∙◌}
use native.Mathlib.Omega.{arith}
use Rattle.cgx_spec.specs.Fields.{width, value, values}
use Rattle.cgx_spec.specs.Kinds.{layout}
use Rattle.cgx_format_kinds.specs.Meant.{field_values, fields_kind}
use Rattle.cgx_read_fields.specs.Views.{FieldsAt, pieces_at, values_at}
use Prim.Native.Nat.{◌+◌}
use mir.Syntax.{w32}
use Rattle.numbers.proofs.Signed.{back}
use Rattle.cgx_read_fields.proofs.Parts.{◌then◌, long-value}
use Rattle.cgx_read_fields.proofs.cprpty_of.Goals as goal

pub returns : goal.returns
unfolding FieldsAt field_values fields_kind values_at layout pieces_at width values value
returns c fl = let s = c in
    record {
      meant =
          long-value s.args.f.now (s.args.at + 4) (omega arith) (back w32 c.long_at-number.type_inv ∙ c.long_at-number.ensures)
          then c.text_at-value.ensures.0
          then refl;
      kind-is = refl;
      located = (c.text_at-value.ensures.1.0, omega arith);
    }
