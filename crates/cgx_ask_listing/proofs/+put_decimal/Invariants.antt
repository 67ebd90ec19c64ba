-- The measure is the number, of which a tenth is smaller.
use Rattle.cgx_ask_listing.proofs.+put_decimal.Given as goal

abbrev pub decreases-put_decimal : goal.decreases-put_decimal
decreases-put_decimal l = l.n
