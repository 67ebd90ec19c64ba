-- By the kind.
use Rattle.cgx_c_fields.proofs.Fills.{told-if, none_filled}
use Rattle.cgx_c_fields.proofs.fill_fields.Goals as goal

pub returns-in-Endlib : goal.returns-in-Endlib
returns-in-Endlib c = let a = c.args in told-if c.in-Endlib.is (none_filled a.r.flags a.f.now a.r.at a.r.size _ a.w.now c.fill_endlib.ensures)
