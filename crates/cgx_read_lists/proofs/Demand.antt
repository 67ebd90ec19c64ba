-- What is proved of lists and texts, from the laws of `Agree` and `ItemsInside`. Assumes nothing.
use Rattle.std.specs.Prelude.{None}
use mathlib.Core.List.{List}
use mathlib.Core.Path.{◌≡◌, sym}
use Prim.Native.Nat.{ℕ, ◌≤◌}
use lib.ListN.{length}
use Rattle.cgx_format_kinds.specs.declared.ItemList.{ItemList}
use Rattle.cgx_read_lists.specs.Lists.{box_of, point_of}
use Rattle.cgx_read_lists.specs.Demand.{ListsDemand}
use Rattle.cgx_read_lists.proofs.ItemsInside.{past-count, no-place, box-none, point-none}
use Rattle.cgx_read_lists.proofs.Agree.{box-numbers, point-numbers, span-text}

no-box : (f : List ℕ) (r : ItemList) (i : ℕ) → r.count ≤ i → box_of f r i ≡ None
no-box f r i h = sym (box-none f r i (sym (no-place (length f) 16 r i (past-count (length f) 16 r i h))))

no-point : (f : List ℕ) (r : ItemList) (i : ℕ) → r.count ≤ i → point_of f r i ≡ None
no-point f r i h = sym (point-none f r i (sym (no-place (length f) 8 r i (past-count (length f) 8 r i h))))

pub lists-demand : ListsDemand
lists-demand = record { boxes = box-numbers; points = point-numbers; no-box = no-box; no-point = no-point; texts = span-text }
