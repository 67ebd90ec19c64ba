-- `cgx_format_sref::after` is right in each of its two branches. Assumes nothing.
use mathlib.Core.Path.{refl}
use Rattle.cgx_format_sref.proofs.after.Goals as goal

pub returns-then-there : goal.returns-then-there
returns-then-there c = rw c.if-there.true refl

pub returns-else-there : goal.returns-else-there
returns-else-there c = rw c.if-there.false refl
