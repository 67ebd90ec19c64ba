-- What was read is all, or too large as all is.
use Rattle.std.proofs.Common.{◌≡◌, ℕ, ◌<◌, List, [], ◌++◌, length, take, refl, sym, ap, subst, arith, OnOk, IfSome, Result, Ok, Err, Option, Some, None, inl, inr}
use Rattle.std.proofs.lemmas.Bool.{lt-ltb, cases_lt}
use Rattle.std.proofs.lemmas.List.{append-nil, length-append, length-take-le}
use Rattle.std.specs.Io.KnownBytes.{Appends, Consumes, IsAtEnd}
use Rattle.cgx_ask_listing.specs.Listing.{listing_of}
use Rattle.cgx_list_io.proofs.list_from.Goals as goal

-- Of two files that are both too large the same is printed.
both_large : (a b : List ℕ) → 65536 < length a → 65536 < length b → listing_of a ≡ listing_of b
unfolding listing_of
both_large a b p q = rw (lt-ltb 65536 (length a) p, lt-ltb 65536 (length b) q) refl

-- The beginning of a file, of 65,537 bytes where the file goes on.
beginning : (bs rest : List ℕ) → (length bs < 65537 → rest ≡ []) → listing_of bs ≡ listing_of (bs ++ rest)
beginning bs rest ends =
    elim (cases_lt (length bs) 65537) [
      | inl below ↦ rw (ends below) (ap listing_of (sym (append-nil bs)))
      | inr most ↦ both_large bs (bs ++ rest) (omega (arith, most)) (omega (arith, most, length-append bs rest))
    ]

-- The same, of what a reader gave and what it has left.
listed : (a b : Option (List ℕ)) (bs : List ℕ) (p q : Option (List ℕ)) → Consumes a b bs → Appends p q (listing_of bs) → (length bs < 65537 → IsAtEnd b) → IfSome a (λ f. Appends p q (listing_of f))
listed None b bs p q took said ends = tt
listed (Some f) None bs p q took said ends = absurd took
listed (Some f) (Some rest) bs p q took said ends = subst (λ l. Appends p q (listing_of l)) (sym took) (subst (Appends p q) (beginning bs rest ends) said)

on_ok-map : {T E : Type 0} (r : Result T E) (p q : Type 0) → OnOk r p → (p → q) → OnOk r q
on_ok-map (Ok x) p q h f = f h
on_ok-map (Err e) p q h f = tt

pub returns : goal.returns
returns g c =
    let read = c.read_full-n in
    let size : length (take read.result.0 read.new.buf) ≡ read.result.0 = length-take-le _ _ read.ensures.inside in
    on_ok-map read.result.1 _ _ read.ensures.end (λ ends. listed _ _ _ _ _ read.ensures.bytes (c.in_ok-list.ensures {u = tt}) (λ below. ends (omega (arith, below, size))))
