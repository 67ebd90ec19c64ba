-- `cgx_read_fields::name_at` is right: no bytes are no name, and any others are a string. Assumes nothing.
use Rattle.cgx_format_kinds.specs.Meant.{name_text}
use Rattle.cgx_read_fields.proofs.Parts.{no_name, a_name}
use Rattle.cgx_read_fields.proofs.name_at.Goals as goal

pub returns-then-len-eq0 : goal.returns-then-len-eq0
unfolding name_text
returns-then-len-eq0 c = let s = c.args in (no_name s.f.now s.at s.len c.if-len-eq0.true, tt)

pub returns-else-len-eq0 : goal.returns-else-len-eq0
unfolding name_text
returns-else-len-eq0 c = let s = c in (a_name s.args.f.now s.args.at s.args.len (s.requires.named c.if-len-eq0.false) c.text_at.ensures.0, c.text_at.ensures.1)
