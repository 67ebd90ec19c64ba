-- A known record has the line of its kind, an unknown one has none.
use mathlib.Core.Path.{ap}
use native.Mathlib.Omega.{arith}
use Rattle.cgx_ask_listing.proofs.Lines.{stored-none, if-room, if-stored}
use Rattle.cgx_ask_listing.proofs.put_record.Goals as goal

pub put_line-requires : goal.put_line-requires
put_line-requires c = if-room c.args.out.now c.args.at c.args.offset (c.in-Some.is) c.requires

pub returns-in-Some : goal.returns-in-Some
returns-in-Some c = if-stored c.args.out.now c.args.at c.args.offset (c.in-Some.is) c.put_line.ensures

pub returns-in-None : goal.returns-in-None
returns-in-None c = if-stored c.args.out.now c.args.at c.args.offset (c.in-None.is) (stored-none c.args.out.now c.args.at (let w = c.requires in omega arith))
