-- `cgx_read_fields::library_of` is right: each field is read where the layout has it. Assumes nothing.
use Rattle.cgx_read_fields.proofs.Libraries.{library-by}
use Rattle.cgx_read_fields.proofs.library_of.Goals as goal

pub returns : goal.returns
returns c = let s = c in
    library-by s.args.f.now s.args.at s.args.size s.requires _ _ _ _ _ c.real_at-munit.ensures c.real_at-uunit.ensures c.date_at-created.ensures c.date_at-modified.ensures c.text_at-name.ensures
