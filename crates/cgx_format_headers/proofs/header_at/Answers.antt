-- The cases of `cut`, in its order (`Heads`).
use native.Mathlib.Omega.{arith}
use Rattle.cgx_format_headers.proofs.Heads.{head-3, head-4, head-odd, head_small, head-long, head-good}
use Rattle.cgx_format_headers.proofs.header_at.Goals as goal

pub returns-then-left-eq0 : goal.returns-then-left-eq0
returns-then-left-eq0 c = rw c.at.ensures (head-3 c.args.s.now c.args.at c.if-left-eq0.true)

pub returns-then-left-lt-HEADER_SIZE : goal.returns-then-left-lt-HEADER_SIZE
returns-then-left-lt-HEADER_SIZE c = rw c.at-then-left-lt-HEADER_SIZE.ensures (head-4 c.args.s.now c.args.at c.if-left-eq0.false c.if-left-lt-HEADER_SIZE.true)

pub returns-then-size-eq1 : goal.returns-then-size-eq1
returns-then-size-eq1 c = rw c.at-then-size-eq1.ensures (head-odd c.args.s.now c.args.at (omega arith) c.header_of-h.ensures.0 c.if-size-eq1.true)

pub returns-then-size-lt-HEADER_SIZE : goal.returns-then-size-lt-HEADER_SIZE
returns-then-size-lt-HEADER_SIZE c = rw c.at-then-size-lt-HEADER_SIZE.ensures (head_small c.args.s.now c.args.at (omega arith) c.header_of-h.ensures.0 c.if-size-eq1.false c.if-size-lt-HEADER_SIZE.true)

pub returns-then-left-size : goal.returns-then-left-size
returns-then-left-size c = rw c.at-then-left-size.ensures (head-long c.args.s.now c.args.at (omega arith) c.header_of-h.ensures.0 c.if-size-eq1.false c.if-size-lt-HEADER_SIZE.false c.if-left-size.true)

pub returns : goal.returns
returns c = head-good c.args.s.now c.args.at (omega arith) c.header_of-h.ensures.0 c.if-size-eq1.false c.if-size-lt-HEADER_SIZE.false c.if-left-size.false c.header_of-h.ensures.1
