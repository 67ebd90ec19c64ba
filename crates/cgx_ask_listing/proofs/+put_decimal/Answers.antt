-- The digits of a tenth, and the last digit after them, are the number's. Assumes nothing.
use mathlib.Core.Path.{sym, ap}
use native.Mathlib.Omega.{arith}
use lib.ListN.{length}
use Rattle.cgx_ask_listing.specs.Listing.{digit, decimal}
use Rattle.cgx_ask_listing.proofs.Decimals.{decimal-one, decimal-more}
use Rattle.cgx_ask_listing.proofs.Lines.{both, room-left, room-first, named-so}
use Prim.Native.Nat.{◌/◌, ◌%◌, ◌≤◌}
use Rattle.cgx_ask_listing.proofs.+put_decimal.Goals as goal

pub put_digit-requires : goal.put_digit-requires
put_digit-requires t c = (omega (arith, c.requires, ap length (decimal-one c.args.n c.if-n-lt10.true)), c.if-n-lt10.true)

pub returns-then-n-lt10 : goal.returns-then-n-lt10
returns-then-n-lt10 t c = named-so (sym (decimal-one c.args.n c.if-n-lt10.true)) c.put_digit.ensures

pub put_decimal-to-requires : goal.put_decimal-to-requires
put_decimal-to-requires t c =
    let h : 10 ≤ c.args.n = omega arith in
    (omega (arith, c.decreases), room-first (decimal (c.args.n / 10)) (digit (c.args.n % 10)) c.args.at _ (rw (decimal-more c.args.n h) at c.requires))

pub put_digit-requires-2 : goal.put_digit-requires-2
put_digit-requires-2 t c =
    let h : 10 ≤ c.args.n = omega arith in
    let r = room-left (digit (c.args.n % 10)) c.put_decimal-to.ensures (rw (decimal-more c.args.n h) at c.requires) in
    (omega arith, omega arith)

pub returns : goal.returns
returns t c =
    let h : 10 ≤ c.args.n = omega arith in
    named-so (sym (decimal-more c.args.n h)) (both c.put_decimal-to.ensures c.put_digit-2.ensures)
