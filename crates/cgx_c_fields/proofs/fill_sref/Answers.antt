-- The rules, and then what is read is stored.
use mathlib.Core.Path.{ap}
use Rattle.cgx_spec.specs.declared.Kind.TheVariants as kinds
use Rattle.cgx_spec.specs.Verdicts.{numbered}
use Rattle.cgx_read_fields.proofs.Srefs.{sref-ready}
use Rattle.cgx_c_fields.proofs.Fills.{readable}
use Rattle.cgx_c_fields.proofs.fill_sref.Goals as goal

pub store_sref-requires : goal.store_sref-requires
store_sref-requires c = sref-ready (readable kinds.Sref c.args.r.flags c.requires c.body_at.ensures.bytes c.body_fault.ensures (ap numbered c.in_ok-body_fault.was))
