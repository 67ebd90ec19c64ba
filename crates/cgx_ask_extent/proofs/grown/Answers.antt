-- Nothing grows from the first point on.
use native.Mathlib.Omega.{arith}
use Rattle.cgx_ask_extent.proofs.Hulls.{only-is, no-points, first-points, more-points}
use Rattle.cgx_ask_extent.proofs.grown.Goals as goal

pub returns-then-b-from : goal.returns-then-b-from
returns-then-b-from c = no-points c.args.b.now c.args.from c.args.r (omega arith)

pub returns-in-None : goal.returns-in-None
returns-in-None c = first-points c.args.b.now c.args.from c.args.r c.in-None.is (omega arith) (only-is c.long_at-x.type_inv c.long_at-y.type_inv c.long_at-x.ensures c.long_at-y.ensures) c.around.ensures

pub returns-in-Some : goal.returns-in-Some
returns-in-Some c = more-points c.args.b.now c.args.from c.args.r c.in-Some.is c.around-in-Some.ensures
