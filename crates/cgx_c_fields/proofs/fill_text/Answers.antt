-- The rules, and then what is read is stored.
use mathlib.Core.Path.{ap}
use Rattle.cgx_spec.specs.declared.Kind.TheVariants as kinds
use Rattle.cgx_spec.specs.Verdicts.{numbered}
use Rattle.cgx_read_fields.proofs.Ready.{text-ready}
use Rattle.cgx_c_fields.proofs.Fills.{readable}
use Rattle.cgx_c_fields.proofs.fill_text.Goals as goal

pub store_text-requires : goal.store_text-requires
store_text-requires c = text-ready (readable kinds.Text c.args.r.flags c.requires c.body_at.ensures.bytes c.text_fault.ensures (ap numbered c.in_ok-text_fault.was))
