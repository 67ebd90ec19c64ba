-- `cgx_read_lists::text_bytes` is right: the part is the span where that lies inside the file, else it has no bytes. Assumes nothing.
use mathlib.Core.Path.{sym, ◌∙◌}
use native.Mathlib.Omega.{arith}
use Rattle.cgx_read_lists.proofs.ItemsInside.{text_in, no_text, a_text}
use Rattle.cgx_read_lists.proofs.text_bytes.Goals as goal

pub returns-else-text_inside : goal.returns-else-text_inside
returns-else-text_inside c = let k = c in let both = no_text k.args.f.now k.args.s k.args.f.ref_ptr (sym k.text_inside.ensures ∙ c.if-text_inside.false) in record { result_value = both.0; place = both.1 }

pub overflow_add-result : goal.overflow_add-result
overflow_add-result c = let k = c in
    let s = k.args in
    let h = text_in s.f.now s.s (sym k.text_inside.ensures ∙ c.if-text_inside.true) in
    omega arith

pub slice_bounds-result-end : goal.slice_bounds-result-end
slice_bounds-result-end c = let k = c in
    let s = k.args in
    let h = text_in s.f.now s.s (sym k.text_inside.ensures ∙ c.if-text_inside.true) in
    omega arith

pub returns-then-text_inside : goal.returns-then-text_inside
returns-then-text_inside c = let k = c in let both = a_text k.args.f.now k.args.s k.args.f.ref_ptr (sym k.text_inside.ensures ∙ c.if-text_inside.true) in record { result_value = both.0; place = both.1 }
