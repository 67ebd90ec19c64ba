-- `cgx_read_fields::sref_of` is right: each field is read where the layout of its flags has it. Assumes nothing.
use Rattle.cgx_read_fields.proofs.Srefs.{sref-room, sref-by}
use Rattle.cgx_read_fields.proofs.sref_of.Goals as goal

pub returns : goal.returns
returns c = sref-by (sref-room c.args.fl c.args.f.now c.args.at c.args.size c.requires (c.sref_layout-l.ensures.value, c.sref_layout-l.ensures.inside)) _ _ _ _ _ c.point_at-anchor.ensures c.real_if-angle.ensures c.real_if-magnif.ensures c.array_if-array.ensures c.text_at-name.ensures
