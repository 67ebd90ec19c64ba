-- By the size of the LAYER, 0 where there is none, and by its name as it is read.
use Rattle.cgx_ask_layer_name.proofs.Layers.{one-there, none-shown, layer-room, layer-named, absent-shown, empty-name-shown, present-shown}
use Rattle.cgx_ask_layer_name.proofs.layer_name_at.Goals as goal

pub returns-in_default : goal.returns-in_default
returns-in_default c = let s = c.args in
    let both = none-shown s.file.now s.at c.layer_size.ensures c.in_default.is in record { value = both.0; inside = both.1 }

pub layer_of-requires : goal.layer_of-requires
layer_of-requires c = let s = c.args in
    let a = one-there s.file.now s.at c.layer_size.ensures c.in-Some.is in
    ((layer-room s.file.now s.at _ a).0, layer-named s.file.now s.at _ a)

pub returns-then-text-eq0 : goal.returns-then-text-eq0
returns-then-text-eq0 c = let r = c in
    let i = c in
    let s = i.args in
    let a = one-there s.file.now s.at i.layer_size.ensures i.in-Some.is in
    let both = empty-name-shown s.file.now s.at _ a r.layer_of.ensures c.in-Some-name.is c.if-text-eq0.true in record { value = both.0; inside = both.1 }

pub returns-in-None : goal.returns-in-None
returns-in-None c = let r = c in
    let i = c in
    let s = i.args in
    let a = one-there s.file.now s.at i.layer_size.ensures i.in-Some.is in
    let both = absent-shown s.file.now s.at _ a r.layer_of.ensures c.in-None.is in record { value = both.0; inside = both.1 }

pub returns-else-text-eq0 : goal.returns-else-text-eq0
returns-else-text-eq0 c = let r = c in
    let i = c in
    let s = i.args in
    let a = one-there s.file.now s.at i.layer_size.ensures i.in-Some.is in
    let both = present-shown s.file.now s.at _ a r.layer_of.ensures c.in-Some-name.is c.if-text-eq0.false in record { value = both.0; inside = both.1 }
