-- 01's specimens marked P, and its file of 96 bytes: the definitions compute them.
use mathlib.Core.Path.{refl}
use Rattle.cgx_spec.specs.Numbers.{twos, short_of, long_of, longs_of}
use Rattle.cgx_spec.specs.Reals.{negative, exponent, mantissa, pack, value as word_value, positive, lower, minus, normal as word_normal, real_of, positive_real, normal_real}
use Rattle.cgx_spec.specs.Dates.{calendar, good_date}
use Rattle.cgx_spec.specs.Strings.{text_of, padded, same, good_string}
use Rattle.cgx_spec.specs.Fields.{All, fits, width, rule_of, in_order, passes, good, normal, pieces, lengths_fit, keeps, normal_bytes}
use Rattle.cgx_spec.specs.Kinds.{kind_of, text_flags, layout}
use Rattle.cgx_spec.specs.Order.{start, allowed}
use Rattle.cgx_spec.specs.Records.{bytes_of, pieces_of, normal_of, broken, rules, context_after}
use Rattle.cgx_spec.specs.Files.{cut_body, cut, settle, judge, finish, step, walk, opening, begin, walk_of, verdict_of, records_of, known, sequence, normal_form}
use Rattle.cgx_spec.specs.Specimens.{Holds, specimens, Drawing, leap_seconds}

infixr 20 ◌also◌
◌also◌ : {A B : Type 0} → A → B → A × B
a also b = (a, b)

pub all_hold : All Holds specimens
unfolding twos long_of negative exponent mantissa pack word_value lower minus word_normal real_of normal_real text_of padded same good_string kind_of start allowed broken rules cut_body cut settle judge step walk opening begin walk_of verdict_of
all_hold =
    refl also refl also refl also refl also refl also (refl, refl) also (refl, refl) also (refl, refl) also refl also refl also refl also refl also (refl, refl, refl) also (refl, refl, refl) also tt

pub drawing-is : Drawing
unfolding twos short_of long_of longs_of negative exponent mantissa pack word_value positive lower minus word_normal positive_real normal_real calendar good_date text_of padded same good_string fits width rule_of in_order passes good normal pieces lengths_fit keeps normal_bytes kind_of text_flags layout start allowed bytes_of pieces_of normal_of broken rules context_after cut_body cut settle judge finish step walk opening begin walk_of verdict_of records_of known sequence normal_form
drawing-is = record { long = refl; taken = refl; offsets = refl; form = refl; second-60 = refl; second-61 = refl; text-flags = refl }

pub leap-seconds : All Holds leap_seconds
unfolding twos short_of long_of longs_of negative exponent mantissa pack word_value positive lower minus word_normal positive_real normal_real calendar good_date text_of padded same good_string fits width rule_of in_order passes good normal pieces lengths_fit keeps normal_bytes kind_of text_flags layout start allowed bytes_of pieces_of normal_of broken rules context_after cut_body cut settle judge finish step walk opening begin walk_of verdict_of records_of known sequence normal_form
leap-seconds =
    (refl, refl) also (refl, refl) also (refl, refl) also (refl, refl) also (refl, refl) also refl also refl also refl also refl also refl also tt
