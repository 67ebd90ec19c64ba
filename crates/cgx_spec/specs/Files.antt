-- Whole files: records cut from the bytes, the verdict with refusals 1 to 13, the sequence, its meaning, and the normal form. Definitions only.
use Rattle.std.specs.Prelude.{◌≡◌, ◌&&◌, ◌||◌, cond, List, [], ◌∷◌, ◌++◌, map, ℕ, zero, suc, ◌+◌, ◌*◌, ◌%◌, ◌-◌, ltb, eqb, length, take, drop, None, Option, Some}
use Rattle.cgx_spec.specs.declared.Kind.{Kind}
use Rattle.cgx_spec.specs.declared.Context.{Context}
use Rattle.cgx_spec.specs.Verdicts.{Verdict}
use Rattle.cgx_spec.specs.Verdicts.{accepted, refused}
use Rattle.cgx_spec.specs.Fields.{join}
use Rattle.cgx_spec.specs.Kinds.{kind_of}
use Rattle.cgx_spec.specs.Order.{start}
use Rattle.cgx_spec.specs.Records.{Rec, size, bytes_of, Meaning, meaning_of, normal_of, fault_of, Placed, context_after, View, view_of}

-- ---- the record at the beginning of the bytes

pub data Cut : Type 0 where
  -- refusal 3, 4 or 5
  bad : ℕ → Cut
  -- a record and the bytes after it
  found : Rec → List ℕ → Cut

-- "then 5, then 4 by size"
unfoldable pub cut_body : ℕ → ℕ → ℕ → List ℕ → Cut
cut_body n t fl bs =
    cond (eqb (n % 2) 1 || ltb n 4)
    (bad 5)
    (cond (ltb (length bs) (n - 4)) (bad 4) (found (record { type = t; flags = fl; body = take (n - 4) bs }) (drop (n - 4) bs)))

-- "per record fewer than four bytes (3 or 4)" first
unfoldable pub cut : List ℕ → Cut
cut [] = bad 3
cut (a ∷ []) = bad 4
cut (a ∷ b ∷ []) = bad 4
cut (a ∷ b ∷ t ∷ []) = bad 4
cut (a ∷ b ∷ t ∷ fl ∷ bs) = cut_body (a * 256 + b) t fl bs

-- ---- one record of a file

pub data Step : Type 0 where
  stop : Verdict → Step
  -- a good record and the bytes after it
  go : Placed → List ℕ → Step

unfoldable pub settle : Context → ℕ → Rec → List ℕ → Option ℕ → Step
settle c at r bs None = go (record { at = at; context = c; rec = r }) bs
settle c at r bs (Some n) = stop (refused n at)

unfoldable pub judge : Context → ℕ → Cut → Step
judge c at (bad n) = stop (refused n at)
judge c at (found r bs) = settle c at r bs (fault_of c r)

-- 13: "bytes after ENDLIB"
unfoldable pub finish : ℕ → List ℕ → Verdict
finish at [] = accepted
finish at (b ∷ bs) = refused 13 at

-- What comes of the bytes from an offset on, after this context.
unfoldable pub step : Context → ℕ → List ℕ → Step
step c at bs = cond c.ended (stop (finish at bs)) (judge c at (cut bs))

-- ---- record after record

pub record Walk : Type 0 where
  -- the good records, unknown ones included
  pub records : List Placed
  pub verdict : Verdict

abbrev pub before : Placed → Walk → Walk
before p w = record { records = p ∷ w.records; verdict = w.verdict }

-- Each step takes four bytes or more, so that as many steps as there are bytes are enough: no file is refused with 0.
unfoldable pub walk : ℕ → Step → Walk
walk zero (stop v) = record { records = []; verdict = v }
walk (suc k) (stop v) = record { records = []; verdict = v }
walk zero (go p bs) = record { records = []; verdict = refused 0 p.at }
walk (suc k) (go p bs) = before p (walk k (step (context_after p) (p.at + size p.rec) bs))

-- ---- the verdict

-- "A file is the bytes `c` `g` `x`, a level byte 0, then records."
abbrev pub header : List ℕ
header = 99 ∷ 103 ∷ 120 ∷ 0 ∷ []

-- 1: "under 4 bytes, or not `cgx`"; 2: "level not 0"; 0 for neither.
unfoldable pub opening : List ℕ → ℕ
opening [] = 1
opening (a ∷ []) = 1
opening (a ∷ b ∷ []) = 1
opening (a ∷ b ∷ c ∷ []) = 1
opening (a ∷ b ∷ c ∷ level ∷ bs) = cond (eqb a 99 && eqb b 103 && eqb c 120) (cond (eqb level 0) 0 2) 1

-- "Its records begin at offset 4."
abbrev pub opened : ℕ → List ℕ → Step
opened zero bs = step start 4 bs
opened (suc n) bs = stop (refused (suc n) 0)

unfoldable pub begin : List ℕ → Step
begin f = opened (opening f) (drop 4 f)

unfoldable pub walk_of : List ℕ → Walk
walk_of f = walk (length f) (begin f)

unfoldable pub verdict_of : List ℕ → Verdict
verdict_of f = (walk_of f).verdict

-- "A file is accepted when none of refusals 1 to 13 applies to its bytes."
unfoldable pub Accepted : List ℕ → Type 0
Accepted f = verdict_of f ≡ accepted

-- ---- the sequence and its meaning

-- All good records of a file, unknown ones included.
unfoldable pub records_of : List ℕ → List Rec
records_of f = map (λ p. p.rec) (walk_of f).records

-- A record of a known kind.
pub record Known : Type 0 where
  pub kind : Kind
  pub rec : Rec

abbrev pub if_known : Option Kind → Rec → List Known → List Known
if_known None r l = l
if_known (Some k) r l = record { kind = k; rec = r } ∷ l

unfoldable pub known : List Rec → List Known
known [] = []
known (r ∷ rs) = if_known (kind_of r.type) r (known rs)

-- "Its sequence is its known records, those of types 0 to 10, in file order."
unfoldable pub sequence : List ℕ → List Known
sequence f = known (records_of f)

abbrev pub meanings : List Known → List Meaning
meanings ns = map (λ n. meaning_of n.kind n.rec) ns

-- "equally many records and, for every k, the k-th of one has the same meaning as the k-th of the other"
abbrev pub SameMeaning : List ℕ → List ℕ → Type 0
SameMeaning f g = meanings (sequence f) ≡ meanings (sequence g)

-- ---- the normal form

abbrev pub normals : List Known → List Rec
normals ns = map (λ n. normal_of n.kind n.rec) ns

-- "its first four bytes, then its sequence with nothing between"
unfoldable pub normal_form : List ℕ → List ℕ
normal_form f = take 4 f ++ join bytes_of (normals (sequence f))

-- ---- views

abbrev pub if_seen : Option Kind → Placed → List View → List View
if_seen None p l = l
if_seen (Some k) p l = view_of k p ∷ l

unfoldable pub views : List Placed → List View
views [] = []
views (p ∷ ps) = if_seen (kind_of p.rec.type) p (views ps)

-- The views of the known records before the verdict.
unfoldable pub views_of : List ℕ → List View
views_of f = views (walk_of f).records
