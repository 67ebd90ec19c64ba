-- Req 02: of what a call checks, the second of a date moves rule 9 alone.
use Rattle.std.specs.Prelude.{None, Option, Some}
use Rattle.std.proofs.lemmas.Bool.{true≢false}
use mathlib.Core.Path.{◌≡◌, refl, sym, ap, ap₂, ◌∙◌}
use mathlib.Core.Bool.{Bool, true, false, not, ◌&&◌, cond}
use mathlib.Core.List.{List, [], ◌∷◌, ◌++◌}
use Prim.Native.Nat.{ℕ, ◌+◌}
use native.Mathlib.Omega.{arith}
use lib.Dec.{T, leb, le→leb}
use lib.ListN.{length, length-append}
use Rattle.cgx_spec.specs.declared.Context.{Context}
use Rattle.cgx_spec.specs.Numbers.{short_bytes}
use Rattle.cgx_spec.specs.Reals.{normal_real}
use Rattle.cgx_spec.specs.Dates.{within, last_second, calendar}
use Rattle.cgx_spec.specs.Fields.{rule_of}
use Rattle.cgx_spec.specs.Kinds.{good_flags, layout}
use Rattle.cgx_spec.specs.Records.{size, rule, broken}
use Rattle.cgx_spec.specs.Walking.{forged}
use Rattle.cgx_spec.proofs.Lists.{T→true, and_left, and_right, and-true}
use Rattle.cgx_spec.proofs.Normal.{broken-none}
use Rattle.cgx_format_kinds.specs.declared.Date.{Date}
use Rattle.cgx_write_given.specs.declared.Writer.{Writer}
use Rattle.cgx_write_given.specs.Given.{Given, date_bytes, stored, good_item, enough, enough_given, keeps_given, written, given_library, given_struct}
use Rattle.cgx_write_given.specs.Writing.{offset_of, context_of, place_of, max_size, allowed_here, rules_of, checks, answered, planned, is_taken, number_in, call_in}
use Rattle.cgx_write_given.specs.Demands.{at_second, AnySecond, GivenSeconds}
use Rattle.cgx_write_given.proofs.Calls.{by_answer}

date-second : (d : Date) (s : ℕ) → T (calendar (date_bytes d)) → calendar (date_bytes (at_second s d)) ≡ leb s 60
unfolding calendar date_bytes short_bytes
date-second d s t =
    let other : Bool = within 1 12 d.month && within 1 31 d.day && within 0 23 d.hour && within 0 59 d.minute in
    ap (λ (z : Bool). z && within 0 last_second s) {x = other} (T→true (and_left other (within 0 last_second d.second) t)) ∙ ap (λ (z : Bool). z && leb s 60) {x = leb 0 s} (T→true (le→leb 0 s (omega arith)))

-- What the checks of two calls have in common that differ in a second.
record Alike (g h : Given) (s : ℕ) : Type 0 where
  here : (c : Context) → allowed_here c h ≡ allowed_here c g
  flags : good_flags h.kind h.flags ≡ good_flags g.kind g.flags
  lists : enough_given h ≡ enough_given g
  dates : T (keeps_given 9 g) → keeps_given 9 h ≡ leb s 60
  ten : keeps_given 10 h ≡ keeps_given 10 g
  eleven : keeps_given 11 h ≡ keeps_given 11 g
  twelve : keeps_given 12 h ≡ keeps_given 12 g
  sizes : size (written h) ≡ size (written g)

taken_is : (n : ℕ) (w : Writer) (g : Given) → is_taken (planned n w g) ≡ true → broken (checks n w g) ≡ None
taken_is n w g = by_answer (λ a. is_taken a ≡ true → broken (checks n w g) ≡ None) n w g (λ e z. e) (λ m e z. absurd (true≢false (sym z)))

only-nine : {a b c d e f g h i x : Bool} → a ≡ true → b ≡ true → c ≡ true → d ≡ true → e ≡ x → f ≡ true → g ≡ true → h ≡ true → i ≡ true → {j : Bool} → j ≡ true → broken (rule 16 a ∷ rule 6 b ∷ rule 7 c ∷ rule 8 d ∷ rule 9 e ∷ rule 10 f ∷ rule 11 g ∷ rule 12 h ∷ rule 15 i ∷ rule 14 j ∷ []) ≡ cond x None (Some 9)
unfolding broken
only-nine a b c d e f g h i j u = broken (rule 16 (a u) ∷ rule 6 (b u) ∷ rule 7 (c u) ∷ rule 8 (d u) ∷ rule 9 (e u) ∷ rule 10 (f u) ∷ rule 11 (g u) ∷ rule 12 (h u) ∷ rule 15 (i u) ∷ rule 14 (j u) ∷ [])

alike : (g h : Given) (s : ℕ) → Alike g h s → (n : ℕ) (w : Writer) → broken (checks n w g) ≡ None → broken (checks n w h) ≡ cond (leb s 60) None (Some 9)
unfolding checks rules_of
alike g h s a n w e =
    let e₁₆ = broken-none 16 (not (forged n (place_of w))) _ e in
    let e₆ = broken-none 6 (allowed_here (context_of w) g) _ e₁₆.1 in
    let e₇ = broken-none 7 (good_flags g.kind g.flags) _ e₆.1 in
    let e₈ = broken-none 8 (enough_given g) _ e₇.1 in
    let e₉ = broken-none 9 (keeps_given 9 g) _ e₈.1 in
    let e₁₀ = broken-none 10 (keeps_given 10 g) _ e₉.1 in
    let e₁₁ = broken-none 11 (keeps_given 11 g) _ e₁₀.1 in
    let e₁₂ = broken-none 12 (keeps_given 12 g) _ e₁₁.1 in
    let e₁₅ = broken-none 15 (leb (size (written g)) max_size) _ e₁₂.1 in
    let e₁₄ = broken-none 14 (leb (offset_of w + size (written g)) n) _ e₁₅.1 in
    only-nine
    (T→true e₁₆.0)
    (a.here (context_of w) ∙ T→true e₆.0)
    (a.flags ∙ T→true e₇.0)
    (a.lists ∙ T→true e₈.0)
    (a.dates e₉.0)
    (a.ten ∙ T→true e₁₀.0)
    (a.eleven ∙ T→true e₁₁.0)
    (a.twelve ∙ T→true e₁₂.0)
    (ap (λ (z : ℕ). leb z max_size) a.sizes ∙ T→true e₁₅.0)
    (ap (λ (z : ℕ). leb (offset_of w + z) n) a.sizes ∙ T→true e₁₄.0)

any-second : (call : Date → Given) → ((d : Date) (s : ℕ) → Alike (call d) (call (at_second s d)) s) → AnySecond call
unfolding call_in planned answered
any-second call a buf w d s z =
    let g = call (at_second s d) in
    ap (λ (o : Option ℕ). number_in (answered w g o)) (alike (call d) g s (a d s) (length buf) w (taken_is (length buf) w (call d) z)) ∙ told (leb s 60)
  where
    told : (b : Bool) → number_in (answered w (call (at_second s d)) (cond b None (Some 9))) ≡ cond b None (Some 9)
    told true = refl
    told false = refl

-- A date has eight bytes, whichever it is.
dated : (d : Date) (s : ℕ) (rest : List ℕ) → length (date_bytes (at_second s d) ++ rest) ≡ length (date_bytes d ++ rest)
unfolding date_bytes short_bytes
dated d s rest = refl

after : (x y z : List ℕ) → length y ≡ length z → length (x ++ y) ≡ length (x ++ z)
after x y z e = length-append x y ∙ ap (λ (n : ℕ). length x + n) e ∙ sym (length-append x z)

-- Of two dates, the first or the second.
first-date : (d other : Date) (s : ℕ) → T (calendar (date_bytes d) && (calendar (date_bytes other) && true)) → (calendar (date_bytes (at_second s d)) && (calendar (date_bytes other) && true)) ≡ leb s 60
first-date d other s t =
    let x = calendar (date_bytes d) in
    let y = calendar (date_bytes other) && true in
    ap₂ ◌&&◌ (date-second d s (and_left x y t)) (T→true (and_right x y t)) ∙ and-true (leb s 60)

second-date : (other d : Date) (s : ℕ) → T (calendar (date_bytes other) && (calendar (date_bytes d) && true)) → (calendar (date_bytes other) && (calendar (date_bytes (at_second s d)) && true)) ≡ leb s 60
second-date other d s t =
    let x = calendar (date_bytes other) in
    let y = calendar (date_bytes d) in
    ap₂ ◌&&◌ {x = x} (T→true (and_left x (y && true) t)) (and-true (calendar (date_bytes (at_second s d))) ∙ date-second d s (and_left y true (and_right x (y && true) t)))

pub given-seconds : GivenSeconds
unfolding given_library given_struct enough_given enough keeps_given layout rule_of good_item written stored
given-seconds =
    record {
      library-created =
          λ version munit uunit modified name. any-second (λ d. given_library version munit uunit d modified name)
          (λ d s. record { here = λ c. refl; flags = refl; lists = refl; dates = first-date d modified s; ten = refl; eleven = refl; twelve = refl; sizes = ap (λ (n : ℕ). 4 + n) (after (normal_real munit) _ _ (after (normal_real uunit) _ _ (dated d s _))) });
      library-modified =
          λ version munit uunit created name. any-second (λ d. given_library version munit uunit created d name)
          (λ d s. record { here = λ c. refl; flags = refl; lists = refl; dates = second-date created d s; ten = refl; eleven = refl; twelve = refl; sizes = ap (λ (n : ℕ). 4 + n) (after (normal_real munit) _ _ (after (normal_real uunit) _ _ (after (date_bytes created) _ _ (dated d s _)))) });
      struct-created =
          λ modified name. any-second (λ d. given_struct d modified name)
          (λ d s. record { here = λ c. refl; flags = refl; lists = refl; dates = first-date d modified s; ten = refl; eleven = refl; twelve = refl; sizes = ap (λ (n : ℕ). 4 + n) (dated d s _) });
      struct-modified =
          λ created name. any-second (λ d. given_struct created d name)
          (λ d s. record { here = λ c. refl; flags = refl; lists = refl; dates = second-date created d s; ten = refl; eleven = refl; twelve = refl; sizes = ap (λ (n : ℕ). 4 + n) (after (date_bytes created) _ _ (dated d s _)) });
    }
