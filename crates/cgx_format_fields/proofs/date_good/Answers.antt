-- The six tests are those of `good_date`, in its order. No byte is below 0.
use Rattle.std.proofs.Common.{◌≡◌, refl, rules, get_or}
use lib.Dec.{leb-zero}
use Rattle.cgx_spec.specs.Dates.{good_date, calendar, within}
use Rattle.cgx_format_fields.proofs.date_good.Goals as goal

pub returns : goal.returns
unfolding good_date calendar
returns c = let b = c.args.b.now in
    let month : c.contains-month.result ≡ within 1 12 (get_or b 2 0) = search rules in
    let day : c.contains-day.result ≡ within 1 31 (get_or b 3 0) = search rules in
    rw (month, day, leb-zero (get_or b 4 0), leb-zero (get_or b 5 0), leb-zero (get_or b 6 0)) refl
