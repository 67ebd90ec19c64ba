-- `cgx_read_fields::layer_of` is right: each field is read where the layout has it. Assumes nothing.
use mathlib.Core.Path.{refl, ap, ◌∙◌}
use Rattle.cgx_spec.specs.Fields.{width, value, values}
use Rattle.cgx_spec.specs.Kinds.{layout}
use Rattle.cgx_format_kinds.specs.Meant.{field_values, fields_kind}
use Rattle.cgx_read_fields.specs.Views.{FieldsAt, pieces_at, values_at}
use mir.Syntax.{w16}
use Rattle.numbers.proofs.Signed.{back}
use Rattle.cgx_format_kinds.specs.Meant.{one}
use Rattle.cgx_read_fields.proofs.Parts.{◌then◌, name_in_lem}
use Rattle.cgx_read_fields.proofs.layer_of.Goals as goal

pub returns : goal.returns
unfolding FieldsAt field_values fields_kind values_at layout pieces_at width values value
returns c fl = let s = c in
    record {
      meant =
          ap one (back w16 c.short_at-number.type_inv ∙ c.short_at-number.ensures)
          then ap one (back w16 c.short_at-datatype.type_inv ∙ c.short_at-datatype.ensures)
          then c.name_at-name.ensures.0
          then refl;
      kind-is = refl;
      located = name_in_lem s.args.at 8 s.args.size c.name_at-name.result s.requires.0 c.name_at-name.ensures.1;
    }
