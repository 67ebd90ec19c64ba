-- 01, "Walking, writing, normal form": places, forged places, and a walk one known record at a time. Definitions only.
use Rattle.std.specs.Prelude.{◌≡◌, Bool, true, not, ◌&&◌, cond, List, [], ◌∷◌, ℕ, zero, suc, ◌+◌, ◌*◌, ◌-◌, ◌%◌, ◌≤◌, ◌<◌, leb, eqb, length, take, drop, get_or, None, Option, Some, Ok, Err}
use Rattle.cgx_spec.specs.declared.Run.{Run}
use Rattle.cgx_spec.specs.declared.Context.{Context}
use Rattle.cgx_spec.specs.declared.Place.{Place}
use Rattle.cgx_spec.specs.Verdicts.{Verdict}
use Rattle.cgx_spec.specs.Verdicts.{accepted, refused}
use Rattle.cgx_spec.specs.Kinds.{kind_of}
use Rattle.cgx_spec.specs.Order.{start}
use Rattle.cgx_spec.specs.Records.{Rec, size, Placed, context_after, View, view_of}
use Rattle.cgx_spec.specs.Files.{Step, stop, go, step, Walk, walk}

-- ---- places

-- "A walk starts after the first four bytes."
unfoldable pub first_place : Place
first_place = record { at = 4; context = start }

-- The place right after a record.
unfoldable pub place_after : Placed → Place
place_after p = record { at = p.at + size p.rec; context = context_after p }

abbrev pub offset_up_to : ℕ → Option ℕ → Bool
offset_up_to at None = true
offset_up_to at (Some p) = leb p at

abbrev pub run_up_to : ℕ → Option Run → Bool
run_up_to at None = true
run_up_to at (Some r) = leb r.first at && leb r.count at

-- 16: "its offset is below 4, odd or past the end, or .. any offset or count kept in it is above its own offset". n is the length of the file.
unfoldable pub forged : ℕ → Place → Bool
forged n p =
    not (leb 4 p.at && eqb (p.at % 2) 0 && leb p.at n && offset_up_to p.at p.context.cell && offset_up_to p.at p.context.layer
    && run_up_to p.at p.context.run)

-- ---- one step

-- "One step yields the next known record and a new place, done, or a refusal with the old place." A refusal has its number and the place it names.
pub data Answer : Type 0 where
  seen : View → Place → Answer
  done : Answer
  refused_at : ℕ → Option ℕ → Answer

unfoldable pub ending : Verdict → Answer
ending (Ok _) = done
ending (Err r) = refused_at r.number (Some r.at)

-- Unknown records are "skipped".
unfoldable pub answer : ℕ → Step → Answer
answer zero (stop v) = ending v
answer (suc n) (stop v) = ending v
answer zero (go p bs) = refused_at 0 None
answer (suc n) (go p bs) =
    elim (kind_of p.rec.type) [ None ↦ answer n (step (context_after p) (p.at + size p.rec) bs) | Some k ↦ seen (view_of k p) (place_after p) ]

-- A place "is refused first, with 16"; "a made-up place that passes is answered as though its context were true". A step does not look at the first four bytes.
unfoldable pub step_of : List ℕ → Place → Answer
step_of f p = cond (forged (length f) p) (refused_at 16 None) (answer (length f) (step p.context p.at (drop p.at f)))

-- ---- step after step

-- What a reader is given that asks for one step after another: the views, and the answer that ends them.
pub record Reads : Type 0 where
  pub views : List View
  pub last : Answer

abbrev pub and_then : View → Reads → Reads
and_then v r = record { views = v ∷ r.views; last = r.last }

unfoldable pub reads : ℕ → List ℕ → Answer → Reads
reads zero f done = record { views = []; last = done }
reads (suc n) f done = record { views = []; last = done }
reads zero f (refused_at m p) = record { views = []; last = refused_at m p }
reads (suc n) f (refused_at m p) = record { views = []; last = refused_at m p }
reads zero f (seen v p) = record { views = []; last = refused_at 0 None }
reads (suc n) f (seen v p) = and_then v (reads n f (step_of f p))

-- ---- a record by its offset and size

-- The size that the bytes at an offset say.
abbrev pub size_at : List ℕ → ℕ → ℕ
size_at f at = get_or f at 0 * 256 + get_or f (at + 1) 0

-- The record of n bytes at an offset.
unfoldable pub rec_at : List ℕ → ℕ → ℕ → Rec
rec_at f at n = record { type = get_or f (at + 2) 0; flags = get_or f (at + 3) 0; body = take (n - 4) (drop (at + 4) f) }

-- The file holds n bytes from an offset on, and n is a size that a record may have.
pub record Held (f : List ℕ) (at n : ℕ) : Type 0 where
  pub least : 4 ≤ n
  pub most : n < 65536
  pub even : n % 2 ≡ 0
  pub inside : at + n ≤ length f

-- ---- the rest of a file

-- The walk from an offset and a context on.
unfoldable pub walk_from : List ℕ → Context → ℕ → Walk
walk_from f c at = walk (length f) (step c at (drop at f))
