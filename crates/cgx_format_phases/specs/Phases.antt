-- The phase after a record, as a table. That this is rule 6 of the contexts is proved in proofs/Fitting. Definitions only.
use Rattle.std.specs.Prelude.{◌≡◌, Bool, true, false, cond, None, Option, Some}
use Rattle.cgx_spec.specs.declared.Kind.{Kind}
use Rattle.cgx_spec.specs.declared.Kind.TheVariants.{Library as LIBRARY, Struct as STRUCT, Cprpty as CPRPTY, Property as PROPERTY, Layer as LAYER, Box as BOX, Poly as POLY, Wire as WIRE, Text as TEXT, Sref as SREF, Endlib as ENDLIB}
use Rattle.cgx_spec.specs.declared.Context.{Context}
use Rattle.cgx_spec.specs.Order.{OrderFacts, facts_of}
use Rattle.cgx_format_phases.specs.declared.Phase.{Phase}
use Rattle.cgx_format_phases.specs.declared.Phase.TheVariants.{Start, Library, Fresh, Cell, Layer, CellRun, LayerRun, Ended, Refused}

-- A row of a table: what it has in the column of a phase.
abbrev pub row : {A : Type 0} → A → A → A → A → A → A → A → A → A → Phase → A
row start library fresh cell layer cell_run layer_run ended refused Start = start
row start library fresh cell layer cell_run layer_run ended refused Library = library
row start library fresh cell layer cell_run layer_run ended refused Fresh = fresh
row start library fresh cell layer cell_run layer_run ended refused Cell = cell
row start library fresh cell layer cell_run layer_run ended refused Layer = layer
row start library fresh cell layer cell_run layer_run ended refused CellRun = cell_run
row start library fresh cell layer cell_run layer_run ended refused LayerRun = layer_run
row start library fresh cell layer cell_run layer_run ended refused Ended = ended
row start library fresh cell layer cell_run layer_run ended refused Refused = refused

abbrev pub is_ended : Phase → Bool
is_ended = row false false false false false false false true false

-- No record was refused by rule 6.
abbrev pub allowed_phase : Phase → Bool
allowed_phase = row true true true true true true true true false

-- ---- the phase after a record: the columns are Start, Library, Fresh, Cell, Layer, CellRun, LayerRun, Ended, Refused

abbrev no : Phase
no = Refused

abbrev pub after_unknown : Phase → Phase
after_unknown = row no Library Fresh Cell Layer CellRun LayerRun Ended no

abbrev pub after_library : Phase → Phase
after_library = row Library no no no no no no no no

abbrev pub after_struct : Phase → Phase
after_struct = row no Fresh Fresh Fresh Fresh no no no no

abbrev pub after_cprpty : Phase → Phase
after_cprpty = row no no Fresh no no no no no no

abbrev pub after_property : Phase → Phase
after_property = row no no CellRun CellRun LayerRun CellRun LayerRun no no

abbrev pub after_layer : Phase → Phase
after_layer = row no no Layer Layer Layer no no no no

-- BOX, POLY, WIRE and TEXT
abbrev pub after_shape : Phase → Phase
after_shape = row no no no no Layer no Layer no no

abbrev pub after_sref : Phase → Phase
after_sref = row no no Cell Cell Layer Cell Layer no no

abbrev pub after_endlib : Phase → Phase
after_endlib = row no Ended Ended Ended Ended no no no no

abbrev pub after_phase : Phase → Option Kind → Phase
after_phase p None = after_unknown p
after_phase p (Some LIBRARY) = after_library p
after_phase p (Some STRUCT) = after_struct p
after_phase p (Some CPRPTY) = after_cprpty p
after_phase p (Some PROPERTY) = after_property p
after_phase p (Some LAYER) = after_layer p
after_phase p (Some BOX) = after_shape p
after_phase p (Some POLY) = after_shape p
after_phase p (Some WIRE) = after_shape p
after_phase p (Some TEXT) = after_shape p
after_phase p (Some SREF) = after_sref p
after_phase p (Some ENDLIB) = after_endlib p

-- ---- what a phase says of a context

-- library, cell, layer, fresh, waiting, ended
abbrev pub facts : Bool → Bool → Bool → Bool → Bool → Bool → OrderFacts
facts l c y f w e = record { library = l; cell = c; layer = y; fresh = f; waiting = w; ended = e }

abbrev pub facts_in : Phase → Option OrderFacts
facts_in =
    row
    (Some (facts false false false false false false))
    (Some (facts true false false false false false))
    (Some (facts true true false true false false))
    (Some (facts true true false false false false))
    (Some (facts true true true false false false))
    (Some (facts true true false false true false))
    (Some (facts true true true false true false))
    (Some (facts false false false false false true))
    None

-- after ENDLIB rule 6 is asked no more, so that the phase is one whatever was open
abbrev pub seen : OrderFacts → OrderFacts
seen s = cond s.ended (facts false false false false false true) s

-- The phase is what rule 6 sees of the context.
unfoldable pub Fits : Phase → Context → Type 0
Fits p c = Some (seen (facts_of c)) ≡ facts_in p
