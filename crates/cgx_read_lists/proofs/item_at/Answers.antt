-- `cgx_read_lists::item_at` is right: an index below the count is inside where it is below the number of whole things that are left. Assumes nothing.
use Rattle.cgx_read_lists.proofs.ItemsInside.{past-count, past_end, with-room, without-room, inside-then, place-is, no-place}
use Rattle.cgx_read_lists.proofs.item_at.Goals as goal
use Rattle.cgx_read_lists.proofs.item_at.Goals.{else-i-list-via-then-i-list+then-list-n+else-i-n, else-i-list-via-then-i-list+else-list-n, else-i-list-via-else-i-list}

pub returns-then-i-n : goal.returns-then-i-n
returns-then-i-n g c = let s = c.args in
    let h = with-room s.n g.row.SIZE s.list s.i c.requires c.if-i-list.true c.if-list-n.true c.if-i-n.true in
    let l = inside-then s.n g.row.SIZE s.list s.i h in
    record { value = place-is s.n g.row.SIZE s.list s.i h; inside = l.1 }

pub returns-else-i-list-clause-value : goal.returns-else-i-list-clause-value
returns-else-i-list-clause-value g c = let s = c.args in
    no-place s.n g.row.SIZE s.list s.i
    (elim c.else-i-list.branch [
      | else-i-list-via-then-i-list+then-list-n+else-i-n w ↦ without-room s.n g.row.SIZE s.list s.i c.requires w.if-list-n.true w.if-i-n.false
      | else-i-list-via-then-i-list+else-list-n w ↦ past_end s.n g.row.SIZE s.list s.i w.if-list-n.false
      | else-i-list-via-else-i-list w ↦ past-count s.n g.row.SIZE s.list s.i w.if-i-list.false
    ])
