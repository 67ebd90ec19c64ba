-- The fields of a LIBRARY, each where the layout has it. Assumes nothing.
use mathlib.Core.Path.{◌≡◌, refl}
use mathlib.Core.List.{List}
use Prim.Native.Nat.{ℕ, ◌+◌, ◌-◌}
use native.Mathlib.Omega.{arith}
use lib.ListN.{take, drop}
use Rattle.cgx_spec.specs.declared.Kind.TheVariants.{Library as library}
use Rattle.cgx_spec.specs.declared.Real.{Real}
use Rattle.cgx_spec.specs.Fields.{date, string, value, width, values}
use Rattle.cgx_spec.specs.Kinds.{layout}
use Rattle.cgx_format_kinds.specs.declared.Date.{Date}
use Rattle.cgx_format_kinds.specs.declared.TextSpan.{TextSpan}
use Rattle.cgx_format_kinds.specs.declared.Fields.TheVariants.{Library}
use Rattle.cgx_format_kinds.specs.Meant.{span_text, date_numbers, field_values, fields_kind}
use Rattle.cgx_read_fields.specs.Views.{FieldsAt, ReadAlike, TextAt, StringAt, real_at, pieces_at, values_at}
use Rattle.cgx_read_fields.proofs.Parts.{◌then◌, real-value}

pub library-by : (f : List ℕ) (at size : ℕ) → StringAt f (at + 36) (size - 36) → (m u : Real) (c d : Date) (t : TextSpan)
    → m ≡ real_at f (at + 4) → u ≡ real_at f (at + 12)
    → date_numbers c ≡ value date (take 8 (drop (at + 20) f)) → date_numbers d ≡ value date (take 8 (drop (at + 28) f))
    → (span_text f t ≡ value string (take (size - 36) (drop (at + 36) f))) × TextAt (at + 36) (at + 36 + (size - 36)) t
    → ReadAlike library f at size (Library (record { munit = m; uunit = u; created = c; modified = d; name = t }))
unfolding FieldsAt field_values fields_kind values_at layout pieces_at width values value
library-by f at size s m u c d t em eu ec ed et fl =
    let l = s.least in
    record {
      meant = real-value (take 8 (drop (at + 4) f)) em then real-value (take 8 (drop (at + 12) f)) eu then ec then ed then et.0 then refl;
      kind-is = refl;
      located = (em, eu, (et.1.0, omega arith));
    }
