-- What typed fields, views and their lists say of a file f, in the terms of the format: the contracts of all readers cite these. Definitions only.
use Rattle.std.specs.Prelude.{List, [], ◌∷◌, ℕ, ◌*◌, ℤ, pos, take, drop, None, Option, Some}
use Rattle.cgx_spec.specs.declared.Kind.{Kind}
use Rattle.cgx_spec.specs.declared.Kind.TheVariants as kinds
use Rattle.cgx_spec.specs.Numbers.{longs_of}
use Rattle.cgx_spec.specs.Reals.{answer_value}
use Rattle.cgx_spec.specs.Fields.{Value, missing, exactly, numbers, text}
use Rattle.cgx_spec.specs.Records
use Rattle.cgx_format_kinds.specs.declared.TextSpan.{TextSpan}
use Rattle.cgx_format_kinds.specs.declared.Date.{Date}
use Rattle.cgx_format_kinds.specs.declared.Point.{Point}
use Rattle.cgx_format_kinds.specs.declared.ItemList.{ItemList}
use Rattle.cgx_format_kinds.specs.declared.Grid.{Grid}
use Rattle.cgx_format_kinds.specs.declared.Fields.{Fields}
use Rattle.cgx_format_kinds.specs.declared.Fields.TheVariants.{Library, Struct, Cprpty, Property, Layer, Box, Poly, Wire, Text, Sref, Endlib}
use Rattle.cgx_format_kinds.specs.declared.View.{View}
use Rattle.cgx_spec.specs.declared.Real.{Real}

-- The bytes of a text.
unfoldable pub span_text : List ℕ → TextSpan → Value
span_text f s = text (take s.len (drop s.at f))

unfoldable pub name_text : List ℕ → Option TextSpan → Value
name_text f None = missing
name_text f (Some s) = span_text f s

unfoldable pub date_numbers : Date → Value
date_numbers d = numbers (d.year ∷ pos d.month ∷ pos d.day ∷ pos d.hour ∷ pos d.minute ∷ pos d.second ∷ [])

abbrev pub one : ℤ → Value
one z = numbers (z ∷ [])

unfoldable pub point_numbers : Point → Value
point_numbers p = numbers (p.x ∷ p.y ∷ [])

-- As many things of u bytes each, from the first on.
unfoldable pub list_numbers : ℕ → List ℕ → ItemList → Value
list_numbers u f r = numbers (longs_of (take (u * r.count) (drop r.first f)))

unfoldable pub optional_value : Option Real → Value
optional_value None = missing
optional_value (Some r) = exactly (answer_value r)

-- Columns, rows and the two points: four fields.
unfoldable pub array_values : Option Grid → List Value → List Value
array_values None vs = missing ∷ missing ∷ missing ∷ missing ∷ vs
array_values (Some g) vs = one g.cols ∷ one g.rows ∷ point_numbers g.across ∷ point_numbers g.up ∷ vs

-- The values of a record's fields; the last is that of what is left over of its body, which is nothing.
unfoldable pub field_values : List ℕ → Fields → List Value
field_values f (Library l) =
    exactly (answer_value l.munit) ∷ exactly (answer_value l.uunit) ∷ date_numbers l.created ∷ date_numbers l.modified ∷ span_text f l.name ∷ missing ∷ []
field_values f (Struct s) = date_numbers s.created ∷ date_numbers s.modified ∷ span_text f s.name ∷ missing ∷ []
field_values f (Cprpty p) = one p.number ∷ span_text f p.value ∷ missing ∷ []
field_values f (Property p) = one p.number ∷ span_text f p.value ∷ missing ∷ []
field_values f (Layer l) = one l.number.0 ∷ one l.datatype.0 ∷ name_text f l.name ∷ missing ∷ []
field_values f (Box b) = list_numbers 16 f b.boxes ∷ missing ∷ []
field_values f (Poly p) = list_numbers 8 f p.points ∷ missing ∷ []
field_values f (Wire w) = one w.width ∷ list_numbers 8 f w.points ∷ missing ∷ []
field_values f (Text t) = one t.at.x ∷ one t.at.y ∷ one t.width ∷ span_text f t.label ∷ missing ∷ []
field_values f (Sref s) =
    one s.at.x ∷ one s.at.y ∷ optional_value s.angle ∷ optional_value s.magnif ∷ array_values s.array (span_text f s.name ∷ missing ∷ [])
field_values f Endlib = missing ∷ []

-- The kind whose fields they are.
unfoldable pub fields_kind : Fields → Kind
fields_kind (Library x) = kinds.Library
fields_kind (Struct x) = kinds.Struct
fields_kind (Cprpty x) = kinds.Cprpty
fields_kind (Property x) = kinds.Property
fields_kind (Layer x) = kinds.Layer
fields_kind (Box x) = kinds.Box
fields_kind (Poly x) = kinds.Poly
fields_kind (Wire x) = kinds.Wire
fields_kind (Text x) = kinds.Text
fields_kind (Sref x) = kinds.Sref
fields_kind Endlib = kinds.Endlib

-- A view, as the definitions have it.
unfoldable pub view_meant : List ℕ → View → Records.View
view_meant f v =
    record { kind = v.kind; flags = v.flags; fields = field_values f v.fields; at = v.at; cell = v.cell; layer = v.layer; run = v.run }
