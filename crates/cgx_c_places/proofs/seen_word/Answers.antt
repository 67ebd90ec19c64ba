-- Term by term.
use mathlib.Core.Path.{◌≡◌, refl}
use mathlib.Core.Bool.{Bool, true, false}
use Rattle.std.specs.Int.{from_bool}
use Rattle.cgx_c_places.specs.Words.{bit, seen_word}
use Rattle.cgx_c_places.proofs.seen_word.Goals as goal

from-is : (b : Bool) → from_bool b ≡ bit b
unfolding bit
from-is true = refl
from-is false = refl

pub returns : goal.returns
unfolding seen_word
returns c = rw (c.from.ensures, c.from-2.ensures, c.from-3.ensures, from-is c.args.library, from-is c.args.fresh, from-is c.args.ended) refl
