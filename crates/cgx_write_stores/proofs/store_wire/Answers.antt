-- The header, the width and the points, one after the other, are the bytes of the record.
use mathlib.Core.Path.{ap, ◌∙◌}
use mathlib.Core.List.{[], ◌∷◌}
use Prim.Native.Nat.{ℕ, ◌+◌, ◌/◌, ◌%◌}
use lib.IntN.{ℤ}
use mir.Syntax.{w32}
use mir.ValLaws.{to_z-of_z}
use Rattle.cgx_spec.specs.Numbers.{long_bytes}
use Rattle.cgx_spec.specs.declared.Kind.TheVariants.{Wire}
use Rattle.cgx_spec.specs.Kinds.{flags_of, type_for}
use Rattle.buffers.specs.Put.{put, longs_bytes}
use Rattle.cgx_write_given.specs.Given.{stored, given_wire}
use Rattle.cgx_write_given.proofs.Sizes.{wire-size}
use Rattle.cgx_write_given.proofs.Widths.{record-put}
use Rattle.cgx_write_stores.proofs.Chain.{onto}
use Rattle.cgx_write_stores.proofs.store_wire.Goals as goal

pub returns : goal.returns
unfolding given_wire stored longs_bytes long_bytes
returns c = let a = c.args in
    let s = c.wire_size.result in
    let h = c.put_header.ensures ∙ ap (λ (f : ℕ). put a.buf.now a.at (s / 256 ∷ s % 256 ∷ type_for Wire ∷ flags_of Wire f ∷ [])) c.style_flags.ensures in
    onto (a.at + 8) (longs_bytes a.points.now) c.put_longs.ensures (onto (a.at + 4) (long_bytes a.width) (c.put_long.ensures ∙ ap (λ (z : ℤ). put c.put_header.new.buf (a.at + 4) (long_bytes z)) (to_z-of_z w32 a.width c.ranges.width)) h)
    ∙ record-put (given_wire a.style a.width a.points.now) a.buf.now a.at c.wire_size.result (c.wire_size.ensures ∙ wire-size a.style a.width a.points.now)
