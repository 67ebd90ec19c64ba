-- The rules, and then what is read is stored.
use mathlib.Core.Path.{refl, ap}
use Rattle.cgx_spec.specs.declared.Kind.TheVariants as kinds
use Rattle.cgx_spec.specs.Verdicts.{numbered}
use Rattle.cgx_format_kinds.specs.declared.Fields.TheVariants as fields
use Rattle.cgx_read_fields.proofs.Ready.{box-ready}
use Rattle.cgx_c_views.specs.ViewWords.{field_words}
use Rattle.cgx_c_fields.proofs.Fills.{readable, filled, filled-if}
use Rattle.cgx_c_fields.proofs.fill_box.Goals as goal

pub box_of-b-requires : goal.box_of-b-requires
box_of-b-requires c = box-ready (readable kinds.Box c.args.r.flags c.requires c.body_at.ensures.bytes c.box_fault.ensures (ap numbered c.in_ok-box_fault.was))

pub returns : goal.returns
unfolding field_words
returns c = filled-if kinds.Box c.args.r.flags c.requires c.body_at.ensures.bytes c.box_fault.ensures (ap numbered c.in_ok-box_fault.was) (filled refl (fields.Box c.box_of-b.result) (c.box_of-b.ensures c.args.r.flags) c.put_list.ensures)
