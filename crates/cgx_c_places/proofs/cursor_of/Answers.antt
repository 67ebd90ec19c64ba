-- Member by member.
use Rattle.cgx_c_places.specs.Words.{cursor_in}
use Rattle.cgx_c_places.proofs.cursor_of.Goals as goal

pub returns : goal.returns
unfolding cursor_in
returns c = cc c.first_of.ensures
