-- No size, no LAYER.
use Rattle.cgx_ask_layer_name.proofs.Layers.{answer-16, answer-0}
use Rattle.cgx_ask_layer_name.proofs.layer_at.Goals as goal

pub returns-in-None : goal.returns-in-None
returns-in-None c = rw c.nowhere.ensures (answer-16 c.args.file.now c.args.at c.layer_size.ensures c.in-None.is)

pub returns-in-Some : goal.returns-in-Some
returns-in-Some c = answer-0 c.args.file.now c.args.at c.layer_size.ensures c.in-Some.is
