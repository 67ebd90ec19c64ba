-- `doubles::real_with` is right: the sign bit of a double and of a real is the top one. Assumes nothing.
use Rattle.doubles.proofs.Made.{real-is}
use Rattle.doubles.proofs.real_with.Goals as goal

pub returns : goal.returns
returns c = real-is c.args.bits c.args.e c.args.m c.ranges.bits.fits
