-- The rules, and then what is read is stored.
use mathlib.Core.Path.{refl, ap}
use Rattle.cgx_spec.specs.declared.Kind.TheVariants as kinds
use Rattle.cgx_spec.specs.Verdicts.{numbered}
use Rattle.cgx_format_kinds.specs.declared.Fields.TheVariants as fields
use Rattle.cgx_read_fields.proofs.Ready.{poly-ready}
use Rattle.cgx_c_views.specs.ViewWords.{field_words}
use Rattle.cgx_c_fields.proofs.Fills.{readable, filled, filled-if}
use Rattle.cgx_c_fields.proofs.fill_poly.Goals as goal

pub poly_of-p-requires : goal.poly_of-p-requires
poly_of-p-requires c = poly-ready (readable kinds.Poly c.args.r.flags c.requires c.body_at.ensures.bytes c.poly_fault.ensures (ap numbered c.in_ok-poly_fault.was))

pub returns : goal.returns
unfolding field_words
returns c = filled-if kinds.Poly c.args.r.flags c.requires c.body_at.ensures.bytes c.poly_fault.ensures (ap numbered c.in_ok-poly_fault.was) (filled refl (fields.Poly c.poly_of-p.result) (c.poly_of-p.ensures c.args.r.flags) c.put_list.ensures)
