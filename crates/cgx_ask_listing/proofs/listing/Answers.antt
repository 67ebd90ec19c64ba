-- By the length, and by the first four bytes. Assumes nothing.
use mathlib.Core.Path.{sym, ◌∙◌}
use native.Mathlib.Omega.{arith}
use Rattle.cgx_format_headers.proofs.Openings.{opening-good}
use Rattle.cgx_ask_listing.proofs.Rests.{opening-listed, opening-room, too_large, small-enough, listed}
use Rattle.cgx_ask_listing.proofs.listing.Goals as goal

pub returns-then-file-gt-LIMIT : goal.returns-then-file-gt-LIMIT
returns-then-file-gt-LIMIT c = listed c.args.file.now c.args.out.now (too_large c.args.file.now (omega arith)) c.put_word.ensures

pub put_last-requires : goal.put_last-requires
put_last-requires c = let h = opening-room c.args.file.now (sym c.in-Err.is ∙ c.check_opening.ensures) in omega arith

pub returns-in-Err : goal.returns-in-Err
returns-in-Err c = let f = c.args.file.now in listed f c.args.out.now (opening-listed f (sym c.in-Err.is ∙ c.check_opening.ensures) ∙ small-enough f (omega arith)) c.put_last.ensures

pub put_records-requires : goal.put_records-requires
put_records-requires c = (opening-good c.args.file.now (sym c.in_default.is ∙ c.check_opening.ensures), omega arith, omega arith)

pub returns : goal.returns
returns c = listed c.args.file.now c.args.out.now (small-enough c.args.file.now (omega arith)) c.put_records.ensures
