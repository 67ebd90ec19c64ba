-- A buffer of four bytes or more holds the header then; a shorter one is untouched.
use Rattle.cgx_write_given.proofs.Calls.{starts, starts-not}
use Rattle.cgx_write_calls.proofs.start.Goals as goal

pub returns-then-buf-lt4 : goal.returns-then-buf-lt4
returns-then-buf-lt4 c = rw c.nowhere.ensures (starts-not c.args.buf.now c.if-buf-lt4.true)

pub returns : goal.returns
returns c = rw c.start.ensures (starts c.args.buf.now c.put_bytes.new.out c.if-buf-lt4.false c.put_bytes.ensures)
