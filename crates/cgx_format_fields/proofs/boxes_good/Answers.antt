-- The body is in order where each chunk of 16 bytes is.
use Rattle.std.proofs.Common.{rules}
use Rattle.std.specs.Iterator.Runs.{IsChunksExactRun}
use Rattle.cgx_format_fields.proofs.Boxes.{ordered, boxes-are}
use Rattle.cgx_format_fields.proofs.Chunks.{each}
use Rattle.cgx_format_fields.proofs.boxes_good.Goals as goal

pub returns : goal.returns
returns c = let b = c.args.b.now in
    let p = c.all.ensures.runs.0 in
    let run : IsChunksExactRun p 16 b = search rules in
    boxes-are b c.all.result c.requires (each _ _ p ordered 16 b (record { some = search rules; keeps = λ a r f q. search rules; answers = λ x r l q. search rules; run = run }) c.all.result c.all.ensures.runs.2)
