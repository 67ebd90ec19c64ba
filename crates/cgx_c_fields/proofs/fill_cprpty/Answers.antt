-- The rules, and then what is read is stored.
use mathlib.Core.Path.{refl, ap}
use Rattle.cgx_spec.specs.declared.Kind.TheVariants as kinds
use Rattle.cgx_spec.specs.Verdicts.{numbered}
use Rattle.cgx_format_kinds.specs.declared.Fields.TheVariants as fields
use mir.Syntax.{w32}
use Rattle.std.proofs.Common.{rules}
use Rattle.numbers.proofs.Signed.{back}
use Rattle.cgx_read_fields.proofs.Ready.{cprpty-ready}
use Rattle.cgx_c_views.specs.ViewWords.{field_words}
use Rattle.cgx_c_fields.proofs.Fills.{readable, filled, filled-if, number-on}
use Rattle.cgx_c_fields.proofs.fill_cprpty.Goals as goal

pub cprpty_of-p-requires : goal.cprpty_of-p-requires
cprpty_of-p-requires c = cprpty-ready (readable kinds.Cprpty c.args.r.flags c.requires c.body_at.ensures.bytes c.body_fault.ensures (ap numbered c.in_ok-body_fault.was))

pub returns : goal.returns
unfolding field_words
returns c = filled-if kinds.Cprpty c.args.r.flags c.requires c.body_at.ensures.bytes c.body_fault.ensures (ap numbered c.in_ok-body_fault.was) (filled refl (fields.Cprpty c.cprpty_of-p.result) (c.cprpty_of-p.ensures c.args.r.flags) (number-on c.args.w.now c.cprpty_of-p.result.value (back w32 (search rules)) c.put_property.ensures))
