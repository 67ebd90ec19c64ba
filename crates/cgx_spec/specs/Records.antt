-- One record: its bytes, its meaning and normal form, the rules 6 to 12, and its view. Definitions only.
use Rattle.std.specs.Prelude.{Bool, cond, List, [], ◌∷◌, ℕ, ◌+◌, ◌/◌, ◌%◌, length, None, Option, Some}
use Rattle.cgx_spec.specs.declared.Kind.{Kind}
use Rattle.cgx_spec.specs.declared.Run.{Run}
use Rattle.cgx_spec.specs.declared.Context.{Context}
use Rattle.cgx_spec.specs.Fields.{Value, Piece, pieces, lengths_fit, keeps, values, normal_bytes}
use Rattle.cgx_spec.specs.Kinds.{kind_of, good_flags, flags_of, layout}
use Rattle.cgx_spec.specs.Order.{allowed, next, is_object}

-- A record as a file has it: "type byte, flags byte, body".
pub record Rec : Type 0 where
  pub type : ℕ
  pub flags : ℕ
  pub body : List ℕ

-- "size (short, header included ..)"
abbrev pub size : Rec → ℕ
size r = 4 + length r.body

unfoldable pub bytes_of : Rec → List ℕ
bytes_of r = size r / 256 ∷ size r % 256 ∷ r.type ∷ r.flags ∷ r.body

unfoldable pub pieces_of : Kind → Rec → List Piece
pieces_of k r = pieces (layout k r.flags) r.body

-- ---- meaning and normal form

-- "Two records have the same meaning when kind, meaningful flags and all fields agree": equal as values of this type.
pub record Meaning : Type 0 where
  pub kind : Kind
  pub flags : ℕ
  pub fields : List Value

unfoldable pub meaning_of : Kind → Rec → Meaning
meaning_of k r = record { kind = k; flags = flags_of k r.flags; fields = values (pieces_of k r) }

unfoldable pub normal_of : Kind → Rec → Rec
normal_of k r = record { type = r.type; flags = flags_of k r.flags; body = normal_bytes (pieces_of k r) }

-- ---- the rules 6 to 12, ascending

pub record Rule : Type 0 where
  pub number : ℕ
  pub kept : Bool

abbrev pub rule : ℕ → Bool → Rule
rule n b = record { number = n; kept = b }

-- The number of the first rule that is not kept.
unfoldable pub broken : List Rule → Option ℕ
broken [] = None
broken (r ∷ rs) = cond r.kept (broken rs) (Some r.number)

abbrev pub field_rules : List Piece → List Rule
field_rules ps = rule 8 (lengths_fit ps) ∷ rule 9 (keeps 9 ps) ∷ rule 10 (keeps 10 ps) ∷ rule 11 (keeps 11 ps) ∷ rule 12 (keeps 12 ps) ∷ []

-- Of a record that is allowed where it is, or is not (rule 6). Nothing more is asked of an unknown one.
unfoldable pub rules : Bool → Option Kind → Rec → List Rule
rules here None r = rule 6 here ∷ []
rules here (Some k) r = rule 6 here ∷ rule 7 (good_flags k r.flags) ∷ field_rules (pieces_of k r)

-- The number of the first rule that a record breaks after this context.
abbrev pub fault_of : Context → Rec → Option ℕ
fault_of c r = broken (rules (allowed c (kind_of r.type)) (kind_of r.type) r)

-- ---- views

-- A record, its offset, and what has been read before it.
pub record Placed : Type 0 where
  pub at : ℕ
  pub context : Context
  pub rec : Rec

unfoldable pub context_after : Placed → Context
context_after p = next p.context p.at (kind_of p.rec.type)

-- "A view tells kind, flags, fields, the record's offset, the offsets of its STRUCT and LAYER (or none)" and its property run.
pub record View : Type 0 where
  pub kind : Kind
  pub flags : ℕ
  pub fields : List Value
  pub at : ℕ
  pub cell : Option ℕ
  pub layer : Option ℕ
  pub run : Option Run

-- "STRUCT and LAYER count as their own"; "Only BOX, POLY, WIRE, TEXT and SREF have a run".
unfoldable pub view_of : Kind → Placed → View
view_of k p =
    record {
      kind = k;
      flags = p.rec.flags;
      fields = values (pieces_of k p.rec);
      at = p.at;
      cell = (context_after p).cell;
      layer = (context_after p).layer;
      run = cond (is_object k) p.context.run None;
    }

-- What the record of a view means.
abbrev pub view_meaning : View → Meaning
view_meaning v = record { kind = v.kind; flags = flags_of v.kind v.flags; fields = v.fields }
