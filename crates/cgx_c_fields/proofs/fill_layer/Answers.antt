-- The rules, and then what is read is stored.
use mathlib.Core.Path.{refl, ap}
use Rattle.cgx_spec.specs.declared.Kind.TheVariants as kinds
use Rattle.cgx_spec.specs.Verdicts.{numbered}
use Rattle.cgx_format_kinds.specs.declared.Fields.TheVariants as fields
use Rattle.cgx_read_fields.proofs.Ready.{layer-ready}
use Rattle.cgx_c_views.specs.ViewWords.{field_words}
use Rattle.cgx_c_fields.proofs.Fills.{readable, filled, filled-if}
use Rattle.cgx_c_fields.proofs.fill_layer.Goals as goal

pub layer_of-requires : goal.layer_of-requires
layer_of-requires c = layer-ready (readable kinds.Layer c.args.r.flags c.requires c.body_at.ensures.bytes c.layer_fault.ensures (ap numbered c.in_ok-layer_fault.was))

pub returns : goal.returns
unfolding field_words
returns c = filled-if kinds.Layer c.args.r.flags c.requires c.body_at.ensures.bytes c.layer_fault.ensures (ap numbered c.in_ok-layer_fault.was) (filled refl (fields.Layer c.layer_of.result) (c.layer_of.ensures c.args.r.flags) c.put_layer.ensures)
