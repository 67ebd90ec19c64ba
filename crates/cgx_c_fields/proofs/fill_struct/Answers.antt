-- The rules, and then what is read is stored.
use mathlib.Core.Path.{refl, ap}
use Rattle.cgx_spec.specs.declared.Kind.TheVariants as kinds
use Rattle.cgx_spec.specs.Verdicts.{numbered}
use Rattle.cgx_format_kinds.specs.declared.Fields.TheVariants as fields
use Rattle.cgx_read_fields.proofs.Ready.{struct-ready}
use Rattle.cgx_c_views.specs.ViewWords.{field_words}
use Rattle.cgx_c_fields.proofs.Fills.{readable, filled, filled-if}
use Rattle.cgx_c_fields.proofs.fill_struct.Goals as goal

pub struct_of-requires : goal.struct_of-requires
struct_of-requires c = struct-ready (readable kinds.Struct c.args.r.flags c.requires c.body_at.ensures.bytes c.body_fault.ensures (ap numbered c.in_ok-body_fault.was))

pub returns : goal.returns
unfolding field_words
returns c = filled-if kinds.Struct c.args.r.flags c.requires c.body_at.ensures.bytes c.body_fault.ensures (ap numbered c.in_ok-body_fault.was) (filled refl (fields.Struct c.struct_of.result) (c.struct_of.ensures c.args.r.flags) c.put_struct.ensures)
