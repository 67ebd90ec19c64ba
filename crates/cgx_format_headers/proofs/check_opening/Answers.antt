-- Byte by byte (`Openings`).
use mathlib.Core.Path.{ap}
use native.Mathlib.Omega.{arith}
use Rattle.cgx_format_headers.specs.Headers.{opened}
use Rattle.cgx_format_headers.proofs.Openings.{opening-short, not-c, not-g, not-x, not-level-0, well-begun}
use Rattle.cgx_format_headers.proofs.check_opening.Goals as goal

pub returns-then-s-lt4 : goal.returns-then-s-lt4
returns-then-s-lt4 c = rw c.at.ensures (ap opened (opening-short c.args.s.now c.if-s-lt4.true))

pub returns-then-s-ne99 : goal.returns-then-s-ne99
returns-then-s-ne99 c = rw c.at-then-s-ne99.ensures (ap opened (not-c c.args.s.now (omega arith) c.if-s-ne99.true))

pub returns-then-s-ne103 : goal.returns-then-s-ne103
returns-then-s-ne103 c = rw c.at-then-s-ne103.ensures (ap opened (not-g c.args.s.now (omega arith) c.if-s-ne99.false c.if-s-ne103.true))

pub returns-then-s-ne120 : goal.returns-then-s-ne120
returns-then-s-ne120 c = rw c.at-then-s-ne120.ensures (ap opened (not-x c.args.s.now (omega arith) c.if-s-ne99.false c.if-s-ne103.false c.if-s-ne120.true))

pub returns-then-s-ne0 : goal.returns-then-s-ne0
returns-then-s-ne0 c = rw c.at-then-s-ne0.ensures (ap opened (not-level-0 c.args.s.now (omega arith) c.if-s-ne99.false c.if-s-ne103.false c.if-s-ne120.false c.if-s-ne0.true))

pub returns : goal.returns
returns c = ap opened (well-begun c.args.s.now (omega arith) c.if-s-ne99.false c.if-s-ne103.false c.if-s-ne120.false c.if-s-ne0.false)
