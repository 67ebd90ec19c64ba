-- The listing of the rest of a file: what a record adds to it, what ends it, and how long it can be. Assumes nothing.
use Rattle.std.specs.Prelude.{None, Option, Some, Result, Ok, Err}
use mathlib.Core.Path.{◌≡◌, refl, sym, ap, ◌∙◌, subst}
use mathlib.Core.Bool.{Bool, true, false, cond, ◌&&◌}
use lib.Dec.{eqb}
use mathlib.Core.List.{List, [], ◌∷◌, ◌++◌, append_assoc}
use Prim.Native.Nat.{ℕ, zero, suc, ◌+◌, ◌*◌, ◌≤◌, ◌<◌}
use native.Mathlib.Omega.{arith}
use native.Mathlib.Nat.{zero-add}
use borrow.Author.Tests.{lt-ltb, le-ltb}
use lib.ListN.{length, drop, length-append}
use Rattle.cgx_spec.specs.declared.Kind.{Kind}
use Rattle.cgx_spec.specs.declared.Kind.TheVariants.{Library, Struct, Cprpty, Property, Layer, Box, Poly, Wire, Text, Sref, Endlib}
use Rattle.cgx_spec.specs.Verdicts.{Verdict}
use Rattle.cgx_spec.specs.Verdicts.{accepted, refused}
use Rattle.cgx_spec.specs.Demands.{NamedFrom}
use Rattle.cgx_spec.specs.Fields.{join}
use Rattle.cgx_spec.specs.Kinds.{kind_of}
use Rattle.cgx_spec.specs.Records.{Placed, view_of}
use Rattle.cgx_spec.specs.Files.{stop, Walk, before, walk, opening, opened, begin, walk_of, verdict_of, if_seen, views, views_of}
use Rattle.cgx_spec.specs.Walking.{rec_at}
use Rattle.cgx_format_headers.specs.declared.Header.{Header}
use Rattle.cgx_spec.specs.declared.FileRefusal.{FileRefusal}
use Rattle.cgx_format_headers.specs.Headers.{opened as said}
use Rattle.cgx_format_headers.proofs.HeaderLaws.{kind-says}
use Rattle.cgx_format_phases.specs.declared.Phase.{Phase}
use Rattle.cgx_format_phases.specs.declared.Phase.TheVariants.{Start}
use Rattle.cgx_read_judge.specs.declared.Judged.{Judged}
use Rattle.cgx_read_judge.specs.Judging.{placed_by, Here, Judges}
use Rattle.cgx_read_judge.proofs.Asking.{last, Asked, asked-start, asked-ends, asked-stop, asked-go, judged-good}
use Rattle.buffers.proofs.Puts.{put-length, put_is}
use Rattle.cgx_ask_listing.specs.Ascii.{ascii}
use Rattle.cgx_ask_listing.specs.Listing.{decimal, name_end, line, line_of, last_line, lines_of, listing_of, line_if, Listed, Stored}
use Rattle.cgx_ask_listing.proofs.Decimals.{decimal-short}
use Rattle.cgx_ask_listing.proofs.Lines.{both, named-so, stored-none}

-- ---- the listing of a walk

abbrev text : Walk → List ℕ
text w = join line_of (views w.records) ++ last_line w.verdict

text-before : (p : Placed) (w : Walk) → text (before p w) ≡ line_if (kind_of p.rec.type) p.at ++ text w
unfolding views view_of
text-before p w = one (kind_of p.rec.type)
  where
    one : (o : Option Kind) → join line_of (if_seen o p (views w.records)) ++ last_line w.verdict ≡ line_if o p.at ++ text w
    one None = refl
    one (Some k) = append_assoc (line p.at k) (join line_of (views w.records)) (last_line w.verdict)

pub not-begun : (f : List ℕ) (k : ℕ) → k ≡ opening f → (k ≡ 0 → ⊥) → last_line (refused k 0) ≡ lines_of f
unfolding lines_of views_of verdict_of walk_of begin walk views
not-begun f zero e z = absurd (z refl)
not-begun f (suc k) e z = sym (ap (λ (n : ℕ). text (walk (length f) (opened n (drop 4 f)))) (sym e) ∙ stopped (length f))
  where
    stopped : (n : ℕ) → text (walk n (stop (refused (suc k) 0))) ≡ last_line (refused (suc k) 0)
    stopped zero = refl
    stopped (suc n) = refl

-- the first four bytes refused
pub opening-listed : (f : List ℕ) {k : FileRefusal} → Err k ≡ said (opening f) → last_line (Err k) ≡ lines_of f
opening-listed f {k} q = go (opening f) refl q
  where
    go : (n : ℕ) → n ≡ opening f → Err k ≡ said n → last_line (Err k) ≡ lines_of f
    go zero e z = absurd (let x : ◌≡◌ {A = ℕ} 0 1 = cc in omega arith)
    go (suc n) e z = ap last_line z ∙ not-begun f (suc n) e (λ y. omega arith)

-- ---- how long a line can be

name-short : (k : Kind) → length (name_end k) ≤ 10
name-short Library = omega arith
name-short Struct = omega arith
name-short Cprpty = omega arith
name-short Property = omega arith
name-short Layer = omega arith
name-short Box = omega arith
name-short Poly = omega arith
name-short Wire = omega arith
name-short Text = omega arith
name-short Sref = omega arith
name-short Endlib = omega arith

pub line-short : (o : Option Kind) (at : ℕ) → at < 100000 → length (line_if o at) ≤ 15
unfolding line
line-short None at h = omega arith
line-short (Some k) at h = omega (arith, length-append (decimal at) (name_end k), decimal-short at h, name-short k)

pub refusal-short : (n p : ℕ) → n < 100000 → p < 100000 → length (last_line (refused n p)) ≤ 23
unfolding last_line
refusal-short n p h g =
    let a = length-append (decimal p) (ascii "\n") in
    let b = length-append (ascii " at ") (decimal p ++ ascii "\n") in
    let c = length-append (decimal n) (ascii " at " ++ (decimal p ++ ascii "\n")) in
    let d = length-append (ascii "refused ") (decimal n ++ (ascii " at " ++ (decimal p ++ ascii "\n"))) in
    omega (arith, decimal-short n h, decimal-short p g)

-- of the first four bytes
opening-small : (f : List ℕ) → opening f ≤ 2
unfolding opening
opening-small [] = omega arith
opening-small (a ∷ []) = omega arith
opening-small (a ∷ b ∷ []) = omega arith
opening-small (a ∷ b ∷ c ∷ []) = omega arith
opening-small (a ∷ b ∷ c ∷ d ∷ l) = two (eqb a 99 && eqb b 103 && eqb c 120) (eqb d 0)
  where
    two : (x y : Bool) → cond x (cond y 0 2) 1 ≤ 2
    two true true = omega arith
    two true false = omega arith
    two false y = omega arith

pub opening-room : (f : List ℕ) {k : FileRefusal} → Err k ≡ said (opening f) → length (last_line (Err k)) ≤ 23
opening-room f {k} q = go (opening f) (opening-small f) q
  where
    go : (n : ℕ) → n ≤ 2 → Err k ≡ said n → length (last_line (Err k)) ≤ 23
    go zero l z = absurd (let x : ◌≡◌ {A = ℕ} 0 1 = cc in omega arith)
    go (suc n) l z = subst (λ (v : Verdict). length (last_line v) ≤ 23) (sym z) (refusal-short (suc n) 0 (omega arith) (omega arith))

verdict-short : (v : Verdict) (at : ℕ) → at < 100000 → NamedFrom 3 v → Here at v → length (last_line v) ≤ 23
unfolding last_line
verdict-short (Ok _) at h n e = omega arith
verdict-short (Err r) at h n e = refusal-short r.number r.at (omega arith) (let q : r.at ≡ at = e in omega arith)

-- ---- the question: the text done, and that of the rest of the walk

abbrev pub ask : List ℕ → Walk → List ℕ
ask done w = done ++ text w

-- The text `done` is stored, and with the listing of the rest it is the whole. A record has 4 bytes or more, and its line 15 or fewer.
pub record Begun (f : List ℕ) (p : Phase) (at : ℕ) (out mid : List ℕ) (to : ℕ) : Type 0 where
  pub done : List ℕ
  pub stored : Stored out 0 done mid to
  pub asked : Asked ask (lines_of f) f p at done
  pub short : 4 * to + 60 ≤ 15 * at

pub begun_first : (f : List ℕ) (out : List ℕ) → opening f ≡ 0 → Begun f Start 4 out out 0
unfolding lines_of views_of verdict_of
begun_first f out z =
    record { done = []; stored = stored-none out 0 (omega arith); asked = asked-start ask (lines_of f) f [] z refl; short = omega arith }

module _ (f : List ℕ) (p : Phase) (at : ℕ) (out mid : List ℕ) (to : ℕ) (h : Begun f p at out mid to) (low : at ≤ 65536) (large : 262144 ≤ length out) where
  mid-long : length mid ≡ length out
  mid-long = ap length h.stored.bytes ∙ put-length out 0 h.done

  pub line-room : (o : Option Kind) → to + length (line_if o at) ≤ length mid
  line-room o = let s = h.short in omega (arith, line-short o at (omega arith), mid-long)

  module _ {r : Result (Option Judged) FileRefusal} (j : Judges f p at r) where
    -- a record, known or unknown
    pub begun-go : {g : Judged} {after : List ℕ} {next-to : ℕ} → r ≡ Ok (Some g) → Stored mid to (line_if g.header.kind at) after next-to → Begun f g.phase (at + g.header.size) out after next-to
    unfolding rec_at
    begun-go {g} e s =
        let k = g.header in
        let l = line_if k.kind at in
        let x = judged-good f p at j e in
        record {
          done = h.done ++ l;
          stored = both h.stored s;
          asked = asked-go ask (lines_of f) f p at h.done h.asked j e (h.done ++ l) (λ c w z. ap (λ (y : List ℕ). h.done ++ y) (text-before (placed_by f c at k) w ∙ ap (λ (o : Option Kind). line_if o at ++ text w) (sym (kind-says f at x.read))) ∙ sym (append_assoc h.done l (text w)));
          short = (let y = h.short in let z = s.ends in let m = x.held.least in omega (arith, line-short k.kind at (omega arith)));
        }

    -- the verdict
    module _ (v : Verdict) (q : r ≡ last v) where
      pub last_fits : to + length (last_line v) ≤ length mid
      last_fits =
          let n = asked-ends ask (lines_of f) f p at h.done h.asked j v q in
          let s = h.short in
          omega (arith, verdict-short v at (omega arith) n.named n.here, mid-long)

      pub begun-stop : {after : List ℕ} {n : ℕ} → Stored mid to (last_line v) after n → Stored out 0 (lines_of f) after n
      unfolding views
      begun-stop s = named-so (sym (asked-stop ask (lines_of f) f p at h.done h.asked j v q)) (both h.stored s)

-- ---- the whole listing

pub too_large : (f : List ℕ) → 65536 < length f → ascii "too large\n" ≡ listing_of f
unfolding listing_of
too_large f h = sym (ap (λ (b : Bool). cond b (ascii "too large\n") (lines_of f)) (lt-ltb 65536 (length f) h))

pub small-enough : (f : List ℕ) → length f ≤ 65536 → lines_of f ≡ listing_of f
unfolding listing_of
small-enough f h = sym (ap (λ (b : Bool). cond b (ascii "too large\n") (lines_of f)) (le-ltb 65536 (length f) h))

pub listed : (f out : List ℕ) {text after : List ℕ} {n : ℕ} → text ≡ listing_of f → Stored out 0 text after n → Listed f out after n
listed f out {text} {after} {n} e s =
    let b : n ≡ length text = s.ends ∙ zero-add (length text) in
    let h : 0 + length text ≤ length out = (let i = s.inside in omega arith) in
    record {
      long = b ∙ ap length e;
      inside = s.inside;
      output = s.bytes ∙ put_is out 0 text h ∙ ap (λ (k : ℕ). text ++ drop k out) (sym s.ends) ∙ ap (λ (x : List ℕ). x ++ drop n out) e;
    }

-- as callers want it
pub listed-inside : {f out after : List ℕ} {n : ℕ} → Listed f out after n → n ≤ length after
listed-inside {f} {out} {after} {n} h =
    let l = h.long in
    let x = ap length h.output ∙ length-append (listing_of f) (drop n out) in
    omega arith
