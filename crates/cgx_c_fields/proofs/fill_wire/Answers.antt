-- The rules, and then what is read is stored.
use mathlib.Core.Path.{refl, ap}
use Rattle.cgx_spec.specs.declared.Kind.TheVariants as kinds
use Rattle.cgx_spec.specs.Verdicts.{numbered}
use Rattle.cgx_format_kinds.specs.declared.Fields.TheVariants as fields
use Rattle.cgx_read_fields.proofs.Ready.{wire-ready}
use Rattle.cgx_c_views.specs.ViewWords.{field_words}
use Rattle.cgx_c_fields.proofs.Fills.{readable, filled, filled-if}
use Rattle.cgx_c_fields.proofs.fill_wire.Goals as goal

pub wire_of-requires : goal.wire_of-requires
wire_of-requires c = wire-ready (readable kinds.Wire c.args.r.flags c.requires c.body_at.ensures.bytes c.wire_fault.ensures (ap numbered c.in_ok-wire_fault.was))

pub returns : goal.returns
unfolding field_words
returns c = filled-if kinds.Wire c.args.r.flags c.requires c.body_at.ensures.bytes c.wire_fault.ensures (ap numbered c.in_ok-wire_fault.was) (filled refl (fields.Wire c.wire_of.result) (c.wire_of.ensures c.args.r.flags) c.put_wire.ensures)
