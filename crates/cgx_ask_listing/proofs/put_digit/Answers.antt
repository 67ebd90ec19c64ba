-- One byte is stored. Assumes nothing.
use mathlib.Core.Path.{refl}
use Prim.Native.Nat.{◌+◌}
use Rattle.buffers.proofs.Puts.{put_one}
use borrow.Author.Rules.{rules}
use Rattle.cgx_ask_listing.proofs.put_digit.Goals as goal

pub returns : goal.returns
returns c = record { bytes = put_one c.args.out.now c.args.at (48 + c.args.n); ends = refl; inside = search rules }
