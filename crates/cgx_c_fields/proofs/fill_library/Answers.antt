-- The rules, and then what is read is stored.
use mathlib.Core.Path.{ap}
use Rattle.cgx_spec.specs.declared.Kind.TheVariants as kinds
use Rattle.cgx_spec.specs.Verdicts.{numbered}
use Rattle.cgx_read_fields.proofs.Ready.{library-ready}
use Rattle.cgx_c_fields.proofs.Fills.{readable}
use Rattle.cgx_c_fields.proofs.fill_library.Goals as goal

pub store_library-requires : goal.store_library-requires
store_library-requires c = library-ready (readable kinds.Library c.args.r.flags c.requires c.body_at.ensures.bytes c.body_fault.ensures (ap numbered c.in_ok-body_fault.was))
