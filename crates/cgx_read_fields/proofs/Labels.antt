-- The fields of a TEXT, each where the layout has it. Assumes nothing.
use mathlib.Core.Path.{◌≡◌, refl}
use mathlib.Core.List.{List}
use Prim.Native.Nat.{ℕ, ◌+◌, ◌-◌}
use native.Mathlib.Omega.{arith}
use lib.IntN.{ℤ}
use lib.ListN.{take, drop}
use Rattle.cgx_spec.specs.declared.Kind.TheVariants.{Text as text}
use Rattle.cgx_spec.specs.Numbers.{long_of}
use Rattle.cgx_spec.specs.Fields.{string, value, width, values}
use Rattle.cgx_spec.specs.Kinds.{layout}
use Rattle.cgx_format_kinds.specs.declared.Point.{Point}
use Rattle.cgx_format_kinds.specs.declared.TextSpan.{TextSpan}
use Rattle.cgx_format_kinds.specs.declared.Fields.TheVariants.{Text}
use Rattle.cgx_format_kinds.specs.Meant.{span_text, field_values, fields_kind}
use Rattle.cgx_read_fields.specs.Views.{FieldsAt, ReadAlike, TextAt, StringAt, pieces_at, values_at}
use Rattle.cgx_read_fields.proofs.Parts.{◌then◌, long-value, second-value}

pub text-by : (f : List ℕ) (at size : ℕ) → StringAt f (at + 16) (size - 16) → (p : Point) (z : ℤ) (t : TextSpan)
    → (p.x ≡ long_of (take 4 (drop (at + 4) f))) × (p.y ≡ long_of (take 4 (drop (at + 4 + 4) f)))
    → z ≡ long_of (take 4 (drop (at + 12) f))
    → (span_text f t ≡ value string (take (size - 16) (drop (at + 16) f))) × TextAt (at + 16) (at + 16 + (size - 16)) t
    → ReadAlike text f at size (Text (record { at = p; width = z; label = t }))
unfolding FieldsAt field_values fields_kind values_at layout pieces_at width values value
text-by f at size s p z t ep ez et fl =
    let l = s.least in
    let i = s.inside in
    record {
      meant =
          long-value f (at + 4) (omega arith) ep.0
          then second-value f (at + 4) (at + 8) (omega arith) (omega arith) ep.1
          then long-value f (at + 12) (omega arith) ez
          then et.0
          then refl;
      kind-is = refl;
      located = (et.1.0, omega arith);
    }
