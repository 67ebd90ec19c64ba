-- One given item, stored as the bytes of its field: the rule of the field says the same of both, and the bytes mean what was given. Assumes nothing.
use mathlib.Core.Path.{◌≡◌, refl, sym, ap, ap₂, ◌∙◌, subst}
use mathlib.Core.Bool.{Bool, true, false, not, ◌&&◌, ◌||◌}
use mathlib.Core.List.{List, [], ◌∷◌, ◌++◌}
use Prim.Native.Nat.{ℕ, zero, suc, ◌+◌, ◌*◌, ◌/◌, ◌%◌, ◌-◌}
use native.Mathlib.Omega.{arith}
use lib.Dec.{T, eqb, leb→le, le→leb}
use lib.IntN.{ℤ, pos, negsuc}
use lib.Signed.{le_z}
use lib.ListN.{length, take, drop}
use lib.Seq.{take-nil, drop-nil}
use Rattle.cgx_spec.specs.Numbers.{Bytes, longs_of, short_bytes, long_bytes}
use Rattle.cgx_spec.specs.Reals.{positive_real}
use Rattle.cgx_spec.specs.Dates.{calendar, good_date, date_of}
use Rattle.cgx_spec.specs.Strings.{text_of, padded, same, good_string}
use Rattle.cgx_spec.specs.Fields.{any, counts, ordered, closed, Test, Field, longs, optional, numbers, text, exactly, ones, in_order, rule_of, passes, good, value, normal}
use Rattle.cgx_spec.proofs.Lists.{T→true, and_left, and_right, and_both, and-true, bool-ext, eqb-false, Bytes-append, Bytes-cons, Bytes-nil, same→eq, same_refl}
use Rattle.cgx_spec.proofs.NumberLaws.{digits-bytes, short_back, long-back}
use Rattle.cgx_spec.proofs.RealLaws.{normal_real-bytes, normal_real-length, normal_real-value, normal_real-positive, normal_real-normal_real}
use Rattle.cgx_format_kinds.specs.declared.Date.{Date}
use Rattle.cgx_format_kinds.specs.Meant.{date_numbers}
use Rattle.buffers.specs.Put.{longs_bytes}
use Rattle.buffers.proofs.Puts.{length-longs}
use Rattle.buffers.proofs.Padding.{length-padded}
use Rattle.cgx_format_fields.specs.Zeros.{no_zero}
use Rattle.cgx_write_given.specs.Given.{Item, means, date_bytes, stored, alike, meets, good_list, good_item, keeping}
use Rattle.cgx_write_given.specs.Typed.{Longs, IsDate, Typed, a_real, a_scale, a_date, a_short, a_list, a_text, a_name, no_name, not_there}

-- ---- lists of longs

pub longs-back : (zs : List ℤ) → Longs zs → longs_of (longs_bytes zs) ≡ zs
unfolding longs_of longs_bytes long_bytes
longs-back [] h = refl
longs-back (z ∷ zs) h = ap₂ ◌∷◌ (long-back z h.0) (longs-back zs h.1)

take-longs : (n : ℕ) (zs : List ℤ) → take (4 * n) (longs_bytes zs) ≡ longs_bytes (take n zs)
unfolding longs_bytes long_bytes
take-longs zero zs = refl
take-longs (suc n) [] = take-nil (4 * suc n)
take-longs (suc n) (z ∷ zs) =
    let e : 4 * suc n ≡ suc (suc (suc (suc (4 * n)))) = omega arith in
    ap (λ (k : ℕ). take k (longs_bytes (z ∷ zs))) e ∙ ap (λ (x : List ℕ). long_bytes z ++ x) (take-longs n zs)

drop-longs : (n : ℕ) (zs : List ℤ) → drop (4 * n) (longs_bytes zs) ≡ longs_bytes (drop n zs)
unfolding longs_bytes long_bytes
drop-longs zero zs = refl
drop-longs (suc n) [] = drop-nil (4 * suc n)
drop-longs (suc n) (z ∷ zs) =
    let e : 4 * suc n ≡ suc (suc (suc (suc (4 * n)))) = omega arith in
    ap (λ (k : ℕ). drop k (longs_bytes (z ∷ zs))) e ∙ drop-longs n zs

Longs-take : (n : ℕ) (zs : List ℤ) → Longs zs → Longs (take n zs)
Longs-take zero zs h = tt
Longs-take (suc n) [] h = tt
Longs-take (suc n) (z ∷ zs) h = (h.0, Longs-take n zs h.1)

Longs-drop : (n : ℕ) (zs : List ℤ) → Longs zs → Longs (drop n zs)
Longs-drop zero zs h = h
Longs-drop (suc n) [] h = tt
Longs-drop (suc n) (z ∷ zs) h = Longs-drop n zs h.1

-- ---- 12: equal longs are equal bytes

both_ways : (x y : ℤ) → T (le_z x y) → T (le_z y x) → x ≡ y
both_ways (pos a) (pos b) p q = let h = leb→le a b p in let k = leb→le b a q in ap pos (omega arith)
both_ways (pos a) (negsuc b) p q = absurd p
both_ways (negsuc a) (pos b) p q = absurd q
both_ways (negsuc a) (negsuc b) p q = let h = leb→le b a p in let k = leb→le a b q in ap negsuc (omega arith)

le_z-refl : (x : ℤ) → T (le_z x x)
le_z-refl (pos a) = le→leb a a (omega arith)
le_z-refl (negsuc a) = le→leb a a (omega arith)

pub alike→eq : (xs ys : List ℤ) → T (alike xs ys) → xs ≡ ys
unfolding alike
alike→eq [] [] t = refl
alike→eq [] (y ∷ ys) t = absurd t
alike→eq (x ∷ xs) [] t = absurd t
alike→eq (x ∷ xs) (y ∷ ys) t =
    let a = and_left (le_z x y && le_z y x) (alike xs ys) t in
    ap₂ ◌∷◌ (both_ways x y (and_left (le_z x y) (le_z y x) a) (and_right (le_z x y) (le_z y x) a)) (alike→eq xs ys (and_right (le_z x y && le_z y x) (alike xs ys) t))

pub alike_refl : (xs : List ℤ) → T (alike xs xs)
unfolding alike
alike_refl [] = tt
alike_refl (x ∷ xs) = and_both (le_z x x && le_z x x) (alike xs xs) (and_both (le_z x x) (le_z x x) (le_z-refl x) (le_z-refl x)) (alike_refl xs)

closed-law : (zs : List ℤ) → Longs zs → meets closed zs ≡ passes closed (longs_bytes zs)
unfolding meets passes
closed-law zs h =
    let b = longs_bytes zs in
    let n : length b ≡ 4 * length zs = length-longs zs in
    let m : length b - 8 ≡ 4 * (length zs - 2) = omega arith in
    let x = take 2 zs in
    let y = drop (length zs - 2) zs in
    let ex : take 8 b ≡ longs_bytes x = take-longs 2 zs in
    let ey : drop (length b - 8) b ≡ longs_bytes y = ap (λ (k : ℕ). drop k b) m ∙ drop-longs (length zs - 2) zs in
    rw (ex, ey)
    (bool-ext (alike x y) (same (longs_bytes x) (longs_bytes y))
    (λ t. subst (λ (l : List ℕ). T (same (longs_bytes x) l)) (ap longs_bytes (alike→eq x y t)) (same_refl (longs_bytes x)))
    (λ t. let e : x ≡ y = sym (longs-back x (Longs-take 2 zs h)) ∙ ap longs_of (same→eq (longs_bytes x) (longs_bytes y) t) ∙ longs-back y (Longs-drop (length zs - 2) zs h) in
    subst (λ (l : List ℤ). T (alike x l)) e (alike_refl x)))

meets-law : (t : Test) (zs : List ℤ) → Longs zs → meets t zs ≡ passes t (longs_bytes zs)
meets-law any zs h = unfold meets passes in refl
meets-law counts zs h = unfold meets passes in (ap ones (sym (longs-back zs h)))
meets-law ordered zs h = unfold meets passes in (ap in_order (sym (longs-back zs h)))
meets-law closed zs h = closed-law zs h

-- ---- 11: texts

text-back : (t : List ℕ) → T (no_zero t) → text_of (padded t) ≡ t
unfolding no_zero text_of padded
text-back [] h = refl
text-back (zero ∷ []) h = absurd h
text-back (suc a ∷ []) h = refl
text-back (zero ∷ b ∷ t) h = absurd h
text-back (suc a ∷ zero ∷ t) h = absurd (and_right (not (eqb (suc a) 0)) false h)
text-back (suc a ∷ suc b ∷ t) h =
    let k = and_right (not (eqb (suc a) 0)) (no_zero (suc b ∷ t)) h in
    ap (λ (x : List ℕ). suc a ∷ suc b ∷ x) (text-back t (and_right (not (eqb (suc b) 0)) (no_zero t) k))

string-law : (t : List ℕ) → T (no_zero t) → T (good_string (padded t))
unfolding good_string
string-law t h = subst (λ (x : List ℕ). T (same (padded t) (padded x))) (sym (text-back t h)) (same_refl (padded t))

optional-good : (b : List ℕ) → T (good_string b) → T (good optional b)
unfolding good
optional-good [] h = tt
optional-good (a ∷ b) h = h

optional-value : (t : List ℕ) → T (no_zero t) → value optional (padded t) ≡ text t
unfolding value
optional-value t h = one (padded t) (length-padded t) ∙ ap text (text-back t h)
  where
    one : (b : List ℕ) → length b ≡ length t / 2 * 2 + 2 → value optional b ≡ text (text_of b)
    one [] e = absurd (omega arith)
    one (a ∷ b) e = refl

-- ---- one item

-- what is stored is in normal form
pub normal-law : {f : Field} {i : Item} → Typed f i → normal f (stored i) ≡ stored i
unfolding normal stored
normal-law (a_real {b = b}) = normal_real-normal_real b
normal-law (a_scale {b = b}) = normal_real-normal_real b
normal-law (a_date h) = refl
normal-law (a_short h) = refl
normal-law (a_list h e) = refl
normal-law (a_text b) = refl
normal-law (a_name b) = refl
normal-law no_name = refl
normal-law not_there = refl

-- a field without a rule
no-rule : (m : ℕ) (b : Bool) → (not (eqb (suc m) 0) || b) ≡ true
no-rule m b = rw (eqb-false (suc m) 0 (λ e. let q : suc m ≡ 0 = e in omega arith))

-- the rule of its field, which is asked of the item and of its bytes
pub kept-law : (m : ℕ) {f : Field} {i : Item} → Typed f i → T (keeping 11 f i) → keeping (suc m) f i ≡ (not (eqb (suc m) (rule_of f)) || good f (stored i))
unfolding good stored good_item good_list rule_of
kept-law m (a_real {b = b}) t = no-rule m (positive_real b) ∙ sym (no-rule m true)
kept-law m (a_scale {b = b}) t = ap (λ (x : Bool). not (eqb (suc m) 10) || x) (sym (normal_real-positive b))
kept-law m (a_date {d = d} h) t = ap (λ (x : Bool). not (eqb (suc m) 9) || x) (sym (unfold good_date date_bytes short_bytes in (and-true (calendar (date_bytes d)))))
kept-law m (a_short h) t = refl
kept-law m (a_list {n = n} {lo = lo} {hi = hi} {t = q} {zs = zs} h e) t = ap (λ (x : Bool). not (eqb (suc m) (rule_of (longs n lo hi q))) || x) (meets-law q zs h)
kept-law m (a_text {t = w} b) t = ap (λ (x : Bool). not (eqb (suc m) 11) || x) (T→true t ∙ sym (T→true (string-law w t)))
kept-law m (a_name {t = w} b) t = ap (λ (x : Bool). not (eqb (suc m) 11) || x) (T→true t ∙ sym (T→true (optional-good (padded w) (string-law w t))))
kept-law m no_name t = refl
kept-law m not_there t = refl

pub value-law : {f : Field} {i : Item} → Typed f i → T (keeping 11 f i) → value f (stored i) ≡ means i
unfolding value stored means good_item rule_of
value-law (a_real {b = b}) t = ap exactly (normal_real-value b)
value-law (a_scale {b = b}) t = ap exactly (normal_real-value b)
value-law (a_date {d = d} h) t =
    unfold date_of date_bytes date_numbers short_bytes in
    (ap (λ (z : ℤ). numbers (z ∷ pos d.month ∷ pos d.day ∷ pos d.hour ∷ pos d.minute ∷ pos d.second ∷ [])) (short_back d.year h.year))
value-law (a_short {z = z} h) t = ap (λ (x : ℤ). numbers (x ∷ [])) (short_back z h)
value-law (a_list {zs = zs} h e) t = ap numbers (longs-back zs h)
value-law (a_text {t = w} b) t = ap text (text-back w t)
value-law (a_name {t = w} b) t = optional-value w t
value-law no_name t = refl
value-law not_there t = refl

pub even-law : {f : Field} {i : Item} → Typed f i → length (stored i) % 2 ≡ 0
unfolding stored date_bytes short_bytes
even-law (a_real {b = b}) = let q = normal_real-length b in omega arith
even-law (a_scale {b = b}) = let q = normal_real-length b in omega arith
even-law (a_date h) = refl
even-law (a_short h) = refl
even-law (a_list {zs = zs} h e) = let q = length-longs zs in omega arith
even-law (a_text {t = t} b) = let q = length-padded t in omega arith
even-law (a_name {t = t} b) = let q = length-padded t in omega arith
even-law no_name = refl
even-law not_there = refl

-- ---- bytes

Bytes-short : (z : ℤ) → Bytes (short_bytes z)
unfolding short_bytes
Bytes-short z = digits-bytes 2 _

Bytes-longs : (zs : List ℤ) → Bytes (longs_bytes zs)
unfolding longs_bytes long_bytes
Bytes-longs [] = Bytes-nil
Bytes-longs (z ∷ zs) = Bytes-append (long_bytes z) (longs_bytes zs) (digits-bytes 4 _) (Bytes-longs zs)

Bytes-padded : (t : List ℕ) → Bytes t → Bytes (padded t)
unfolding padded
Bytes-padded [] h = Bytes-cons 0 (0 ∷ []) (omega arith) (Bytes-cons 0 [] (omega arith) Bytes-nil)
Bytes-padded (a ∷ []) h = Bytes-cons a (0 ∷ []) (h 0) (Bytes-cons 0 [] (omega arith) Bytes-nil)
Bytes-padded (a ∷ b ∷ t) h = Bytes-cons a (b ∷ padded t) (h 0) (Bytes-cons b (padded t) (h 1) (Bytes-padded t (λ i. h (suc (suc i)))))

Bytes-date : (d : Date) → IsDate d → Bytes (date_bytes d)
unfolding date_bytes
Bytes-date d h =
    let five = d.month ∷ d.day ∷ d.hour ∷ d.minute ∷ d.second ∷ 0 ∷ [] in
    Bytes-append (short_bytes d.year) five (Bytes-short d.year)
    (Bytes-cons d.month (d.day ∷ d.hour ∷ d.minute ∷ d.second ∷ 0 ∷ []) h.month
    (Bytes-cons d.day (d.hour ∷ d.minute ∷ d.second ∷ 0 ∷ []) h.day
    (Bytes-cons d.hour (d.minute ∷ d.second ∷ 0 ∷ []) h.hour
    (Bytes-cons d.minute (d.second ∷ 0 ∷ []) h.minute (Bytes-cons d.second (0 ∷ []) h.second (Bytes-cons 0 [] (omega arith) Bytes-nil))))))

pub bytes-law : {f : Field} {i : Item} → Typed f i → Bytes (stored i)
unfolding stored
bytes-law (a_real {b = b}) = normal_real-bytes b
bytes-law (a_scale {b = b}) = normal_real-bytes b
bytes-law (a_date {d = d} h) = Bytes-date d h
bytes-law (a_short {z = z} h) = Bytes-short z
bytes-law (a_list {zs = zs} h e) = Bytes-longs zs
bytes-law (a_text {t = w} b) = Bytes-padded w b
bytes-law (a_name {t = w} b) = Bytes-padded w b
bytes-law no_name = Bytes-nil
bytes-law not_there = Bytes-nil
