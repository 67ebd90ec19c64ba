-- The TEXT is planned from the writer after the two records.
use mathlib.Core.Path.{sym, ◌∙◌}
use mathlib.Core.List.{[], ◌∷◌}
use Rattle.cgx_write_makers.specs.Makers.{outline, caption}
use Rattle.cgx_write_makers.proofs.Turns.{plan-last, more-stops, more-goes}
use Rattle.cgx_write_makers.proofs.plan_frame.Goals as goal

pub returns-in-Ok : goal.returns-in-Ok
returns-in-Ok c = let a = c.args in
    more-goes a.room (caption a.at a.label.now ∷ []) (outline a.points.now) a.w _ c.plan_text.result (sym c.plan_outline.ensures ∙ c.in-Ok.is) (c.plan_text.ensures ∙ plan-last a.room _ (caption a.at a.label.now))

pub returns-in-Err : goal.returns-in-Err
returns-in-Err c = let a = c.args in
    more-stops a.room (caption a.at a.label.now ∷ []) (outline a.points.now) a.w _ (sym c.plan_outline.ensures ∙ c.in-Err.is)
