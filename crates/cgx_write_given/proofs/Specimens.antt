-- The calls of 01's drawing, at its seconds and at leap seconds, and its 4,096 boxes: the definitions compute them.
use Rattle.std.specs.Prelude.{Some}
use mathlib.Core.Path.{◌≡◌, refl}
use mathlib.Core.Bool.{true, false}
use mathlib.Core.List.{List, [], ◌∷◌, ◌++◌}
use Prim.Native.Nat.{ℕ, ◌+◌, ◌<◌}
use native.Mathlib.Omega.{arith}
use lib.Dec.{leb, leb→le}
use lib.IntN.{ℤ, pos, negsuc}
use lib.ListN.{length, length-append}
use Rattle.cgx_spec.specs.declared.Context.{Context}
use Rattle.cgx_spec.specs.Numbers.{untwos, short_bytes, long_bytes}
use Rattle.cgx_spec.specs.Reals.{negative, exponent, mantissa, pack, value as word_value, positive, lower, minus, normal as word_normal, positive_real, normal_real}
use Rattle.cgx_spec.specs.Dates.{calendar}
use Rattle.cgx_spec.specs.Strings.{padded}
use Rattle.cgx_spec.specs.Fields.{rule_of, in_order}
use Rattle.cgx_spec.specs.Kinds.{kind_of, good_flags, layout}
use Rattle.cgx_spec.specs.Order.{start, allowed}
use Rattle.cgx_spec.specs.Records.{size, bytes_of, broken, context_after}
use Rattle.cgx_spec.specs.Walking.{first_place, place_after}
use Rattle.cgx_spec.specs.Specimens.{drawing_normal, stamped}
use Rattle.cgx_spec.proofs.Lists.{¬T→false, Bytes-cons, Bytes-nil}
use Rattle.buffers.specs.Put.{longs_bytes}
use Rattle.buffers.proofs.Puts.{length-longs}
use Rattle.cgx_format_cursor.specs.Cursors.{offset_in, run_in, context_in, place_in, state_of, cursor_of}
use Rattle.cgx_format_fields.specs.Zeros.{no_zero}
use Rattle.cgx_write_given.specs.Given.{date_bytes, stored, groups, enough, meets, good_list, good_item, enough_given, keeps_given, written, given_library, given_struct, given_layer, given_box, given_endlib}
use Rattle.cgx_write_given.specs.Writing.{first_writer, writer_after, max_size, allowed_here, rules_of, file_of}
use Rattle.cgx_write_given.specs.Specimens.{begun, ended, drawn_at, drawing_calls, stamped_calls}
use Rattle.cgx_write_given.specs.Typed.{Longs, IsDate, AllWell}
use Rattle.cgx_write_given.specs.Demands.{Whole, CallsPromises, Specimens}
use Rattle.cgx_write_given.proofs.Calling.{calls-promises}

drawing-file : file_of drawing_calls ≡ drawing_normal
unfolding file_of bytes_of written stored date_bytes untwos short_bytes long_bytes longs_bytes normal_real word_normal negative exponent mantissa pack lower minus padded given_library given_struct given_layer given_box given_endlib
drawing-file = refl

stamped-file : file_of stamped_calls ≡ stamped 60 60 60 60
unfolding file_of bytes_of written stored date_bytes untwos short_bytes long_bytes longs_bytes normal_real word_normal negative exponent mantissa pack lower minus padded given_library given_struct given_layer given_box given_endlib
stamped-file = refl

drawn-typed : (a b c d : ℕ) → a < 256 → b < 256 → c < 256 → d < 256 → AllWell (drawn_at a b c d)
drawn-typed a b c d ha hb hc hd = (
  g.library 7 _ _ (begun a) (begun b) _ (omega arith) (early a ha) (early b hb) (Bytes-cons 0x6d [] (omega arith) Bytes-nil),
  (g.struct (ended c) (ended d) _ (late c hc) (late d hd) (Bytes-cons 0x61 [] (omega arith) Bytes-nil), (g.layer _ _ (omega arith) (omega arith), (g.box _ sides, (g.endlib, tt)))),
)
  where
    g : CallsPromises
    g = calls-promises

    early : (s : ℕ) → s < 256 → IsDate (begun s)
    early s h = record { year = omega arith; month = omega arith; day = omega arith; hour = omega arith; minute = omega arith; second = h }

    late : (s : ℕ) → s < 256 → IsDate (ended s)
    late s h = record { year = omega arith; month = omega arith; day = omega arith; hour = omega arith; minute = omega arith; second = h }

    sides : Longs (negsuc 0 ∷ pos 0 ∷ pos 10 ∷ pos 20 ∷ [])
    sides = (omega arith, (omega arith, (omega arith, (omega arith, tt))))

drawing-whole : Whole first_writer drawing_calls
unfolding first_writer first_place start writer_after place_after place_in context_in offset_in run_in cursor_of state_of context_after kind_of broken rules_of allowed enough_given keeps_given groups enough no_zero meets good_list good_item layout rule_of in_order calendar positive_real positive word_value written stored date_bytes untwos short_bytes long_bytes longs_bytes normal_real word_normal negative exponent mantissa pack lower minus padded given_library given_struct given_layer given_box given_endlib
drawing-whole =
    let t = drawn-typed 0 0 59 59 (omega arith) (omega arith) (omega arith) (omega arith) in
    (t.0, refl, (t.1.0, refl, (t.1.1.0, refl, (t.1.1.1.0, refl, (t.1.1.1.1.0, refl, refl)))))

stamped-whole : Whole first_writer stamped_calls
unfolding first_writer first_place start writer_after place_after place_in context_in offset_in run_in cursor_of state_of context_after kind_of broken rules_of allowed enough_given keeps_given groups enough no_zero meets good_list good_item layout rule_of in_order calendar positive_real positive word_value written stored date_bytes untwos short_bytes long_bytes longs_bytes normal_real word_normal negative exponent mantissa pack lower minus padded given_library given_struct given_layer given_box given_endlib
stamped-whole =
    let t = drawn-typed 60 60 60 60 (omega arith) (omega arith) (omega arith) (omega arith) in
    (t.0, refl, (t.1.0, refl, (t.1.1.0, refl, (t.1.1.1.0, refl, (t.1.1.1.1.0, refl, refl)))))

-- ---- 4,096 boxes keep every rule but 15

module _ (sides : List ℤ) where
  flags-kept : good_flags (given_box sides).kind (given_box sides).flags ≡ true
  unfolding given_box
  flags-kept = refl

  whole-boxes : length sides ≡ 16384 → enough_given (given_box sides) ≡ true
  unfolding given_box enough_given enough groups layout
  whole-boxes l = rw l

  no-date : keeps_given 9 (given_box sides) ≡ true
  unfolding given_box keeps_given layout rule_of
  no-date = refl

  ordered-boxes : in_order sides ≡ true → keeps_given 10 (given_box sides) ≡ true
  unfolding given_box keeps_given layout rule_of good_item good_list meets
  ordered-boxes o = rw o

  no_text : keeps_given 11 (given_box sides) ≡ true
  unfolding given_box keeps_given layout rule_of
  no_text = refl

  not-closed : keeps_given 12 (given_box sides) ≡ true
  unfolding given_box keeps_given layout rule_of
  not-closed = refl

  too-big : length sides ≡ 16384 → leb (size (written (given_box sides))) max_size ≡ false
  unfolding given_box written stored
  too-big l =
      let n = length-longs sides in
      let m = length-append (longs_bytes sides) [] in
      ¬T→false (λ t. let h = leb→le (4 + length (longs_bytes sides ++ [])) max_size t in omega arith)

boxes-4096 : (c : Context) (sides : List ℤ) → allowed_here c (given_box sides) ≡ true → in_order sides ≡ true → length sides ≡ 16384 → broken (rules_of c (given_box sides)) ≡ Some 15
unfolding rules_of broken
boxes-4096 c sides h o l =
    let big = too-big sides l in
    rw (h, flags-kept sides, whole-boxes sides l, no-date sides, ordered-boxes sides o, no_text sides, not-closed sides, big)

pub specimens : Specimens
specimens = record { drawing-whole = drawing-whole; drawing-file = drawing-file; stamped-whole = stamped-whole; stamped-file = stamped-file; boxes-4096 = boxes-4096 }
