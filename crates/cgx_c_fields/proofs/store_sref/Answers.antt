-- What is read where the layout of the flags has it is stored (`Fills`).
use Rattle.cgx_read_fields.proofs.Srefs.{sref-room}
use Rattle.cgx_c_fields.proofs.Fills.{sref-filled}
use Rattle.cgx_c_fields.proofs.store_sref.Goals as goal

pub returns : goal.returns
returns c = let s = c in sref-filled s.args.w.now _ (sref-room s.args.fl s.args.f.now s.args.at s.args.size s.requires (c.sref_layout-l.ensures.value, c.sref_layout-l.ensures.inside)) _ _ _ _ _ _ _ c.pair_at-point.ensures c.word_if-angle.ensures c.word_if-magnif.ensures c.pair_if-counts.ensures c.pair_if-across.ensures c.pair_if-up.ensures c.text_at-name.ensures c.put_sref.ensures
