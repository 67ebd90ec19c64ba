-- The wire is planned from the writer after the LAYER.
use mathlib.Core.Path.{sym, ◌∙◌}
use mathlib.Core.List.{[], ◌∷◌}
use Rattle.cgx_write_makers.specs.Makers.{card_layer, card_wire}
use Rattle.cgx_write_makers.proofs.Turns.{plan-last, more-stops, more-goes}
use Rattle.cgx_write_makers.proofs.plan_outline.Goals as goal

pub returns-in-Ok : goal.returns-in-Ok
returns-in-Ok c = let a = c.args in
    more-goes a.room (card_wire a.points.now ∷ []) (card_layer ∷ []) a.w _ c.plan_wire.result (sym (c.plan_layer.ensures ∙ plan-last a.room a.w card_layer) ∙ c.in-Ok.is) (c.plan_wire.ensures ∙ plan-last a.room _ (card_wire a.points.now))

pub returns-in-Err : goal.returns-in-Err
returns-in-Err c = let a = c.args in
    more-stops a.room (card_wire a.points.now ∷ []) (card_layer ∷ []) a.w _ (sym (c.plan_layer.ensures ∙ plan-last a.room a.w card_layer) ∙ c.in-Err.is)
