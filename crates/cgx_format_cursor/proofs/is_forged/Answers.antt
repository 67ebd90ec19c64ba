-- The six tests of `forged`, in its order.
use Rattle.cgx_spec.specs.Walking.{forged}
use Rattle.cgx_format_cursor.specs.Cursors.{context_in, place_in}
use Rattle.cgx_format_cursor.proofs.Laws.{offset_up}
use Rattle.cgx_format_cursor.proofs.is_forged.Goals as goal

pub returns : goal.returns
unfolding forged place_in context_in
returns c = let p = c.args.c in cc (offset_up p.at p.state.cell, offset_up p.at p.state.layer, c.run_up_to-run.ensures)
