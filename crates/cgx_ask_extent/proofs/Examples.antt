-- The extent of 01's file of 96 bytes: one cell, and one box in it. The definitions compute it.
use Rattle.std.specs.Prelude.{None, Some}
use mathlib.Core.Path.{◌≡◌, refl}
use lib.IntN.{pos, negsuc}
use Rattle.cgx_spec.specs.Numbers.{twos, short_of, long_of, longs_of}
use Rattle.cgx_spec.specs.Reals.{negative, exponent, mantissa, pack, value as word_value, positive, lower, minus, positive_real}
use Rattle.cgx_spec.specs.Dates.{calendar, good_date}
use Rattle.cgx_spec.specs.Strings.{text_of, padded, same, good_string}
use Rattle.cgx_spec.specs.Fields.{fits, width, rule_of, in_order, passes, good, pieces, lengths_fit, keeps}
use Rattle.cgx_spec.specs.Kinds.{kind_of, layout}
use Rattle.cgx_spec.specs.Order.{start, allowed}
use Rattle.cgx_spec.specs.Records.{pieces_of, broken, rules, context_after}
use Rattle.cgx_spec.specs.Files.{cut_body, cut, settle, judge, finish, step, walk, opening, begin, walk_of, verdict_of, records_of, known, sequence}
use Rattle.cgx_spec.specs.Specimens.{drawing}
use Rattle.cgx_ask_extent.specs.Extent.{found, not_found, pairs, points_by, points, only, wider, widest, hull, up_to_struct, cell_of, around, answer_on, extent_of}

pub record Examples : Type 0 where
  pub cell : extent_of drawing 0 ≡ found (Some (record { left = negsuc 0; bottom = pos 0; right = pos 10; top = pos 20 }))
  pub no_cell : extent_of drawing 1 ≡ not_found 16 None

pub examples : Examples
unfolding twos short_of long_of longs_of negative exponent mantissa pack word_value positive lower minus positive_real calendar good_date text_of padded same good_string fits width rule_of in_order passes good pieces lengths_fit keeps kind_of layout start allowed pieces_of broken rules context_after cut_body cut settle judge finish step walk opening begin walk_of verdict_of records_of known sequence pairs points_by points only wider widest hull up_to_struct cell_of around answer_on extent_of
examples = record { cell = refl; no_cell = refl }
