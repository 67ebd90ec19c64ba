-- `cgx_normal_copy::real_width` is right by its one test. Assumes nothing.
use Rattle.cgx_normal_copy.specs.Copy.{real_width}
use Rattle.cgx_normal_copy.proofs.real_width.Goals as goal

pub returns-then-there : goal.returns-then-there
unfolding real_width
returns-then-there c = rw c.if-there.true

pub returns-else-there : goal.returns-else-there
unfolding real_width
returns-else-there c = rw c.if-there.false
