-- The rules one after another (`Rules`).
use Rattle.std.specs.Prelude.{Option}
use mathlib.Core.Path.{sym, ap, ◌∙◌}
use Rattle.cgx_format_records.specs.Faults.{rule_fault}
use Rattle.cgx_format_records.proofs.Rules.{first-6, flags-7, body-8, unknown-0}
use Rattle.cgx_format_records.proofs.record_fault.Goals as goal
use Rattle.cgx_spec.specs.declared.Kind.{Kind}

pub returns-then-not-here : goal.returns-then-not-here
returns-then-not-here c = λ n. first-6 c.args.here c.args.t (record { type = n; flags = c.args.fl; body = c.args.b.now }) c.if-not-here.true

pub returns-then-not-flags_good : goal.returns-then-not-flags_good
returns-then-not-flags_good c = λ n. flags-7 c.args.here c.if-not-here.false _ c.args.fl c.args.b.now n c.flags_good.ensures c.if-not-flags_good.true ∙ ap (λ (t : Option Kind). rule_fault c.args.here t (record { type = n; flags = c.args.fl; body = c.args.b.now })) (sym c.in-Some.is)

pub returns-else-not-flags_good : goal.returns-else-not-flags_good
returns-else-not-flags_good c = λ n. body-8 c.args.here c.if-not-here.false _ c.args.fl c.args.b.now n c.flags_good.ensures c.if-not-flags_good.false c.body_fault.ensures ∙ ap (λ (t : Option Kind). rule_fault c.args.here t (record { type = n; flags = c.args.fl; body = c.args.b.now })) (sym c.in-Some.is)

pub returns-in-None : goal.returns-in-None
returns-in-None c = λ n. unknown-0 c.if-not-here.false (record { type = n; flags = c.args.fl; body = c.args.b.now }) ∙ ap (λ (t : Option Kind). rule_fault c.args.here t (record { type = n; flags = c.args.fl; body = c.args.b.now })) (sym c.in-None.is)
