-- `cgx_normal_copy::text_place` is right by its one test. Assumes nothing.
use native.Mathlib.Omega.{arith}
use borrow.Author.Tests.{eq-eqb, ne_eqb}
use Rattle.cgx_normal_copy.proofs.text_place.Goals as goal

pub returns-then-p-eq3 : goal.returns-then-p-eq3
returns-then-p-eq3 c = (rw (eq-eqb c.args.p 3 c.if-p-eq3.true), omega arith)

pub returns-else-p-eq3 : goal.returns-else-p-eq3
returns-else-p-eq3 c = (rw (ne_eqb c.args.p 3 c.if-p-eq3.false), omega arith)
