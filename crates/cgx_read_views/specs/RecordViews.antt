-- A good record of a known kind, and what is promised of its view. Definitions only.
use Rattle.std.specs.Prelude.{cond, List, ◌≡◌, ℕ, ◌+◌, get_or, Some}
use Rattle.cgx_spec.specs.declared.Context.{Context}
use Rattle.cgx_spec.specs.declared.Kind.{Kind}
use Rattle.cgx_spec.specs.Kinds.{kind_of}
use Rattle.cgx_spec.specs.Order.{is_object}
use Rattle.cgx_spec.specs.Records.{view_of}
use Rattle.cgx_spec.specs.Walking.{rec_at}
use Rattle.cgx_format_kinds.specs.Meant.{fields_kind, view_meant}
use Rattle.cgx_format_kinds.specs.declared.View.{View}
use Rattle.cgx_read_fields.specs.Views.{FieldsAt}
use Rattle.cgx_read_steps.specs.Steps.{Good}

-- A good record of n bytes, of kind k and with flags fl, is at an offset.
pub record Found (f : List ℕ) (c : Context) (at n : ℕ) (k : Kind) (fl : ℕ) : Type 0 where
  pub good : Good f c at n
  pub kind-is : kind_of (get_or f (at + 2) 0) ≡ Some k
  pub flags-is : fl ≡ get_or f (at + 3) 0

-- What is promised of the view of a record of n bytes from byte b of the memory m on, which is byte `at` of the file.
pub record Viewed (m : List ℕ) (b : ℕ) (c : Context) (at n : ℕ) (k : Kind) (v : View) : Type 0 where
  pub means : view_meant m v ≡ view_of k (record { at = at; context = c; rec = rec_at m b n })
  pub kind-is : fields_kind v.fields ≡ v.kind
  pub offset-is : v.at ≡ at
  pub located : FieldsAt v.flags m b (b + n) v.fields

-- Of the PROPERTY records that await an object only an object takes any.
abbrev pub taken_by : Kind → ℕ → ℕ
taken_by k count = cond (is_object k) count 0
