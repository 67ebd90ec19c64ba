-- The digits of a number say it, and the definitions compute 01's listing. Assumes nothing.
use Rattle.std.specs.Prelude.{None, Option, Some}
use mathlib.Core.Path.{◌≡◌, refl, sym, ap, ◌∙◌}
use mathlib.Core.Bool.{Bool, true, false}
use mathlib.Core.List.{List, [], ◌∷◌, ◌++◌}
use Prim.Native.Nat.{ℕ, zero, suc, ◌+◌, ◌*◌, ◌-◌, ◌/◌, ◌%◌, ◌≤◌, ◌<◌}
use native.Mathlib.Omega.{arith}
use borrow.Author.Tests.{ltb-true, ltb-false}
use lib.Dec.{ltb}
use lib.ListN.{length, get_or, length-append}
use Rattle.cgx_spec.specs.declared.Kind.{Kind}
use Rattle.cgx_spec.specs.declared.Context.{Context}
use Rattle.cgx_spec.specs.Verdicts.{Verdict}
use Rattle.cgx_spec.specs.Verdicts.{refused}
use Rattle.cgx_spec.specs.Numbers.{Bytes, twos, short_of, long_of, longs_of}
use Rattle.cgx_spec.specs.Reals.{negative, exponent, mantissa, pack, value as word_value, positive, lower, minus, normal as word_normal, positive_real, normal_real}
use Rattle.cgx_spec.specs.Dates.{calendar, good_date}
use Rattle.cgx_spec.specs.Strings.{text_of, padded, same, good_string}
use Rattle.cgx_spec.specs.Fields.{join, fits, width, rule_of, in_order, passes, good, pieces, lengths_fit, keeps}
use Rattle.cgx_spec.specs.Kinds.{kind_of, layout}
use Rattle.cgx_spec.specs.Order.{start, allowed, next}
use Rattle.cgx_spec.specs.Records.{Rec, size, bytes_of, Placed, View, pieces_of, broken, rules, context_after, view_of}
use Rattle.cgx_spec.specs.Files.{header, cut_body, cut, settle, judge, finish, step, walk, opening, begin, walk_of, verdict_of, Accepted, records_of, if_seen, views, views_of}
use Rattle.cgx_spec.specs.Specimens.{drawing}
use Rattle.cgx_spec.specs.Written.{place_all}
use Rattle.cgx_spec.proofs.Chain.{file-sound, file-places}
use Rattle.cgx_ask_listing.specs.Ascii.{ascii}
use Rattle.cgx_ask_listing.specs.Listing.{digit, decimal_in, decimal, line, line_of, last_line, lines_of, listing_of, line_if}
use Rattle.cgx_ask_listing.specs.Demand.{number_after, Shaped, six_lines, ListerDemand}
use Rattle.cgx_ask_listing.proofs.Decimals.{decimal-one, decimal-more}
use Rattle.cgx_ask_listing.proofs.Rests.{not-begun, small-enough}

-- one digit more
one_more : (m : ℕ) (ds : List ℕ) (d : ℕ) → number_after m (ds ++ digit d) ≡ 10 * number_after m ds + d
unfolding number_after
one_more m [] d = omega arith
one_more m (e ∷ ds) d = one_more (10 * m + (e - 48)) ds d

say : (k n : ℕ) → n < k → number_after 0 (decimal_in k n) ≡ n
unfolding decimal_in number_after
say zero n h = absurd (omega arith)
say (suc k) n h = one (ltb n 10) refl (λ g. say k (n / 10) g)
  where
    one : (b : Bool) → ltb n 10 ≡ b → (n / 10 < k → number_after 0 (decimal_in k (n / 10)) ≡ n / 10) → number_after 0 (elim b [ true ↦ digit n | false ↦ decimal_in k (n / 10) ++ digit (n % 10) ]) ≡ n
    one true e ih = omega arith
    one false e ih = let l = ltb-false n 10 e in let x = ih (omega arith) in omega (arith, one_more 0 (decimal_in k (n / 10)) (n % 10))

digits-say : (n : ℕ) → number_after 0 (decimal n) ≡ n
unfolding decimal
digits-say n = say (suc n) n (omega arith)

-- the first digit stays where another is put after it
first : (ds : List ℕ) (d : ℕ) → 1 ≤ length ds → get_or (ds ++ digit d) 0 0 ≡ get_or ds 0 0
first [] d h = absurd (omega arith)
first (e ∷ ds) d h = refl

some-digit : (n : ℕ) → 1 ≤ length (decimal n)
some-digit n = one (ltb n 10) refl
  where
    one : (b : Bool) → ltb n 10 ≡ b → 1 ≤ length (decimal n)
    one true e = omega (arith, ap length (decimal-one n (ltb-true n 10 e)))
    one false e = omega (arith, ap length (decimal-more n (ltb-false n 10 e)), length-append (decimal (n / 10)) (digit (n % 10)))

not_first : (k n : ℕ) → n < k → get_or (decimal n) 0 0 ≡ 48 → n ≡ 0
not_first zero n h z = absurd (omega arith)
not_first (suc k) n h z = one (ltb n 10) refl (λ g y. not_first k (n / 10) g y)
  where
    one : (b : Bool) → ltb n 10 ≡ b → (n / 10 < k → get_or (decimal (n / 10)) 0 0 ≡ 48 → n / 10 ≡ 0) → n ≡ 0
    one true e ih = let x = sym (ap (λ (l : List ℕ). get_or l 0 0) (decimal-one n (ltb-true n 10 e))) ∙ z in omega arith
    one false e ih =
        let l = ltb-false n 10 e in
        let y : get_or (decimal (n / 10)) 0 0 ≡ 48 = sym (first (decimal (n / 10)) (n % 10) (some-digit (n / 10))) ∙ sym (ap (λ (l : List ℕ). get_or l 0 0) (decimal-more n l)) ∙ z in
        let x = ih (omega arith) y in
        omega arith

no-zero-first : (n : ℕ) → get_or (decimal n) 0 0 ≡ 48 → n ≡ 0
no-zero-first n z = not_first (suc n) n (omega arith) z

-- ---- the listing of an accepted file

-- the lines of records from an offset on
lines_from : ℕ → List Rec → List ℕ
lines_from at [] = []
lines_from at (r ∷ rs) = line_if (kind_of r.type) at ++ lines_from (at + size r) rs

placed-lines : (rs : List Rec) (c : Context) (at : ℕ) → join line_of (views (place_all c at rs)) ≡ lines_from at rs
unfolding place_all views view_of lines_from
placed-lines [] c at = refl
placed-lines (r ∷ rs) c at = one (kind_of r.type) (views (place_all (next c at (kind_of r.type)) (at + size r) rs)) (placed-lines rs (next c at (kind_of r.type)) (at + size r))
  where
    p : Placed
    p = record { at = at; context = c; rec = r }

    one : (o : Option Kind) (vs : List View) → join line_of vs ≡ lines_from (at + size r) rs → join line_of (if_seen o p vs) ≡ line_if o at ++ lines_from (at + size r) rs
    one None vs e = e
    one (Some k) vs e = ap (λ (x : List ℕ). line at k ++ x) e

accepted-lines : (f : List ℕ) → Bytes f → Accepted f → lines_of f ≡ lines_from 4 (records_of f) ++ ascii "ok\n"
unfolding lines_of views_of Accepted last_line
accepted-lines f h a =
    ap (λ (v : Verdict). join line_of (views_of f) ++ last_line v) a
    ∙ ap (λ (x : List ℕ). x ++ ascii "ok\n") (ap (λ (ps : List Placed). join line_of (views ps)) (file-places f h a) ∙ placed-lines (records_of f) start 4)

-- the line of a record of known type and length, and the offset after it
shaped-line : {t n : ℕ} (r : Rec) (at : ℕ) (rs : List Rec) → Shaped t n r → lines_from at (r ∷ rs) ≡ line_if (kind_of t) at ++ lines_from (at + (4 + n)) rs
unfolding lines_from
shaped-line {t} {n} r at rs s =
    ap (λ (x : ℕ). line_if (kind_of x) at ++ lines_from (at + size r) rs) s.0 ∙ ap (λ (x : ℕ). line_if (kind_of t) at ++ lines_from (at + (4 + x)) rs) s.1

abbrev records_bytes : List Rec → List ℕ
records_bytes rs = join bytes_of rs

bytes-long : (r : Rec) (rs : List Rec) → length (records_bytes (r ∷ rs)) ≡ 4 + length r.body + length (records_bytes rs)
unfolding bytes_of
bytes-long r rs = omega (arith, length-append r.body (records_bytes rs))

six-lines : (f : List ℕ) (l s y b e : Rec) → Bytes f → Accepted f → records_of f ≡ l ∷ s ∷ y ∷ b ∷ e ∷ [] → Shaped 0 34 l → Shaped 1 18 s → Shaped 4 4 y → Shaped 5 16 b → Shaped 10 0 e → listing_of f ≡ six_lines
unfolding lines_from kind_of decimal_in decimal line
six-lines f l s y b e h a q sl ss sy sb se =
    sym (small-enough f short) ∙ accepted-lines f h a ∙ ap (λ (rs : List Rec). lines_from 4 rs ++ ascii "ok\n") q
    ∙ ap (λ (x : List ℕ). x ++ ascii "ok\n") (shaped-line l 4 (s ∷ y ∷ b ∷ e ∷ []) sl)
    ∙ ap (λ (x : List ℕ). (line_if (kind_of 0) 4 ++ x) ++ ascii "ok\n") (shaped-line s 42 (y ∷ b ∷ e ∷ []) ss)
    ∙ ap (λ (x : List ℕ). (line_if (kind_of 0) 4 ++ (line_if (kind_of 1) 42 ++ x)) ++ ascii "ok\n") (shaped-line y 64 (b ∷ e ∷ []) sy)
    ∙ ap (λ (x : List ℕ). (line_if (kind_of 0) 4 ++ (line_if (kind_of 1) 42 ++ (line_if (kind_of 4) 64 ++ x))) ++ ascii "ok\n") (shaped-line b 72 (e ∷ []) sb)
    ∙ ap (λ (x : List ℕ). (line_if (kind_of 0) 4 ++ (line_if (kind_of 1) 42 ++ (line_if (kind_of 4) 64 ++ (line_if (kind_of 5) 72 ++ x)))) ++ ascii "ok\n") (shaped-line e 92 [] se)
  where
    short : length f ≤ 65536
    short =
        let w : length f ≡ length (header ++ records_bytes (l ∷ s ∷ y ∷ b ∷ e ∷ [])) = ap length (file-sound f h a).0 ∙ ap (λ (rs : List Rec). length (header ++ records_bytes rs)) q in
        omega (arith, w, length-append header (records_bytes (l ∷ s ∷ y ∷ b ∷ e ∷ [])), bytes-long l (s ∷ y ∷ b ∷ e ∷ []), bytes-long s (y ∷ b ∷ e ∷ []), bytes-long y (b ∷ e ∷ []), bytes-long b (e ∷ []), bytes-long e [], sl.1, ss.1, sy.1, sb.1, se.1)

of-drawing : listing_of drawing ≡ six_lines
unfolding twos short_of long_of longs_of negative exponent mantissa pack word_value positive lower minus word_normal positive_real normal_real calendar good_date text_of padded same good_string fits width rule_of in_order passes good pieces lengths_fit keeps kind_of layout start allowed pieces_of broken rules context_after view_of cut_body cut settle judge finish step walk opening begin walk_of verdict_of views views_of decimal_in decimal line last_line lines_of listing_of
of-drawing = refl

refusal-only : (f : List ℕ) (n : ℕ) → length f ≤ 65536 → opening f ≡ suc n → listing_of f ≡ last_line (refused (suc n) 0)
refusal-only f n h e = sym (not-begun f (suc n) (sym e) (λ z. let q : suc n ≡ 0 = z in omega arith) ∙ small-enough f h)

pub lister-demand : ListerDemand
lister-demand = record { digits-say = digits-say; no-zero-first = no-zero-first; six-lines = six-lines; of-drawing = of-drawing; refusal-only = refusal-only }
