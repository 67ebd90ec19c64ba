-- The property of a cell.
use Rattle.cgx_write_given.proofs.Calling.{calls-promises}
use Rattle.cgx_write_given.proofs.Ranges.{long-in}
use Rattle.cgx_write_calls.proofs.cprpty.Goals as goal

pub returns-clause-typed : goal.returns-clause-typed
returns-clause-typed c = let a = c.args in
    calls-promises.cprpty a.number a.value.now (long-in a.number c.ranges.number.sfits) (λ i. (c.shared_slice_known-1.given i).fits)
