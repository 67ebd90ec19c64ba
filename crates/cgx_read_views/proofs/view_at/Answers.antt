-- Field by field (`Views`).
use mathlib.Core.Path.{refl, ap, ◌∙◌}
use Rattle.cgx_format_cursor.specs.Cursors.{run_in}
use Rattle.cgx_read_views.proofs.Views.{readable, view-is}
use Rattle.cgx_read_views.proofs.view_at.Goals as goal

pub fields_of-fields-requires : goal.fields_of-fields-requires
fields_of-fields-requires c = readable c.requires.0

pub returns : goal.returns
returns c = let s = c in
    let a = s.args in
    let f = c.fields_of-fields in
    let run = c.run_of-run.ensures ∙ ap (run_in a.s.first) c.taken.ensures in
    record {
      means = view-is a.m.now a.from a.s a.after a.r.at a.r.size a.r.kind a.r.flags s.requires.0 s.requires.1 f.result _ _ _ f.ensures.result_value c.offset_of-cell.ensures c.offset_of-layer.ensures run;
      kind-is = f.ensures.kind;
      offset-is = refl;
      located = f.ensures.located;
    }
