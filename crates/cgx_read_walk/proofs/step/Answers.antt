-- By what is sought (`Answers`).
use Rattle.std.specs.Prelude.{Ok}
use mathlib.Core.Path.{ap, ◌∙◌}
use Rattle.cgx_read_walk.proofs.Answers.{sought-refused, sought-done, sought-known, sought-made}
use Rattle.cgx_read_walk.proofs.step.Goals as goal

pub known-requires : goal.known-requires
known-requires c = (sought-known c.args.file.now c.args.place c.seek.ensures (c.in-Ok-Some.is ∙ ap Ok c.in-Ok-Some.field-0-is)).0

pub returns-in-Ok-Some : goal.returns-in-Ok-Some
returns-in-Ok-Some c = sought-made c.args.file.now c.args.place c.seek.ensures (c.in-Ok-Some.is ∙ ap Ok c.in-Ok-Some.field-0-is) c.known.ensures

pub returns-in-Ok-None : goal.returns-in-Ok-None
returns-in-Ok-None c = sought-done c.args.file.now c.args.place c.seek.ensures (c.in-Ok-None.is ∙ ap Ok c.in-Ok-None.field-0-is)

pub returns-in-Err : goal.returns-in-Err
returns-in-Err c = sought-refused c.args.file.now c.args.place c.seek.ensures c.in-Err.is
