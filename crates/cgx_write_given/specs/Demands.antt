-- What is proved of the writer's definitions: start here. `WriterPromises` holds it all, and proofs/Promises.antt proves it. Statements only.
use Rattle.std.specs.Prelude.{◌≡◌, ◌⊎◌, true, false, cond, List, [], ◌∷◌, ◌++◌, map, ℕ, ◌+◌, ◌≤◌, ◌<◌, leb, ℤ, pos, negsuc, length, take, get_or, None, Option, Some, Ok, Err, IfErr}
use Rattle.cgx_spec.specs.declared.Context.{Context}
use Rattle.cgx_spec.specs.Numbers.{Bytes}
use Rattle.cgx_spec.specs.Fields.{in_order}
use Rattle.cgx_spec.specs.Kinds.{angle, magnif, array}
use Rattle.cgx_spec.specs.Records.{size, bytes_of, broken, fault_of, view_meaning}
use Rattle.cgx_spec.specs.Files.{header, Accepted, sequence, meanings, normal_form}
use Rattle.cgx_spec.specs.Walking.{first_place, done, step_of, reads}
use Rattle.cgx_spec.specs.Specimens.{drawing_normal, stamped}
use Rattle.buffers.specs.Put.{put}
use Rattle.cgx_format_kinds.specs.declared.Date.{Date}
use Rattle.cgx_format_kinds.specs.declared.LayerNo.{LayerNo}
use Rattle.cgx_format_kinds.specs.declared.DataType.{DataType}
use Rattle.cgx_format_kinds.specs.declared.Point.{Point}
use Rattle.cgx_format_kinds.specs.declared.Grid.{Grid}
use Rattle.cgx_write_given.specs.declared.Writer.{Writer}
use Rattle.cgx_write_given.specs.Given.{Given, keeps_given, meant, written, style_of, given_library, given_struct, given_cprpty, given_property, given_layer, given_box, given_poly, given_wire, given_text, given_sref, given_endlib}
use Rattle.cgx_write_given.specs.Typed.{Short, Long, Longs, IsDate, IsPoint, IsGrid, WellTyped, AllWell}
use Rattle.cgx_write_given.specs.Writing.{offset_of, context_of, first_writer, writer_after, max_size, allowed_here, rules_of, is_taken, number_in, writer_or, call_in, start_in, History, from_start, file_of}
use Rattle.cgx_write_given.specs.Specimens.{drawing_calls, stamped_calls}

-- ---- what is given

-- Records that keep all rules but 14 and 16, one after another from a writer on, the last of them ENDLIB.
abbrev pub Whole : Writer → List Given → Type 0
Whole w [] = (context_of w).ended ≡ true
Whole w (g ∷ gs) = WellTyped g × (broken (rules_of (context_of w) g) ≡ None) × Whole (writer_after w g) gs

-- The bytes up to the writer's place are those of the records taken, an accepted file that means them, and its own normal form.
pub record ReadBack (h : History) : Type 0 where
  pub bytes : take (offset_of h.writer) h.buffer ≡ file_of h.taken
  pub accepted : Accepted (take (offset_of h.writer) h.buffer)
  pub means : meanings (sequence (take (offset_of h.writer) h.buffer)) ≡ map meant h.taken
  -- What was given is what a walk over them shows, step after step from the start, and then it is done.
  pub shown : let f = take (offset_of h.writer) h.buffer in let r = reads (length f) f (step_of f first_place) in (map view_meaning r.views ≡ map meant h.taken) × (r.last ≡ done)
  pub normal : normal_form (take (offset_of h.writer) h.buffer) ≡ take (offset_of h.writer) h.buffer

-- The records `before` one of them are taken, and that one does not fit: it is answered 14, and nothing changes.
pub record Stops (buf : List ℕ) (gs : List Given) : Type 0 where
  pub before : List Given
  pub first : Given
  pub rest : List Given
  pub split : gs ≡ before ++ (first ∷ rest)
  pub taken : (from_start buf before).taken ≡ before
  pub fits : length (file_of before) ≤ length buf
  pub lacks : length buf < length (file_of (before ++ (first ∷ [])))
  pub fourteen : let h = from_start buf before in call_in h.buffer h.writer first ≡ record { answer = Err (record { number = 14; at = None }); buffer = h.buffer }

-- ---- the round trip

pub record RoundTrip : Type 0 where
  -- "Its round trip holds from a fresh start": good records in an allowed order, with room enough, are all taken, and are read back.
  pub round_trip : (buf : List ℕ) (gs : List Given) → Whole first_writer gs → length (file_of gs) ≤ length buf
      → let h = from_start buf gs in (h.taken ≡ gs) × ReadBack h
  -- 14, "room smaller than what would be written", has its one cause: where the same records do not fit, the first that does not is answered 14.
  pub no_room : (buf : List ℕ) (gs : List Given) → Whole first_writer gs → 4 ≤ length buf → length buf < length (file_of gs) → Stops buf gs
  -- After any calls, refused ones among them, the last record taken being ENDLIB, what was taken is read back.
  pub any-calls : (buf : List ℕ) (gs : List Given) → 4 ≤ length buf → AllWell gs → let h = from_start buf gs in (context_of h.writer).ended ≡ true → ReadBack h

-- ---- the buffer

pub record Untouched : Type 0 where
  -- "all other bytes of the buffer stay": those before the writer's offset, and those from the offset of the writer to go on with.
  pub outside : (buf : List ℕ) (w : Writer) (g : Given) (i : ℕ) → let o = call_in buf w g in (i < offset_of w) ⊎ (offset_of (writer_or w o.answer) ≤ i) → get_or o.buffer i 0 ≡ get_or buf i 0
  pub length-stays : (buf : List ℕ) (w : Writer) (g : Given) → length (call_in buf w g).buffer ≡ length buf
  -- A refusal changes no byte, and "hands back its old place": the writer to go on with is the one that was given.
  pub refusal : (buf : List ℕ) (w : Writer) (g : Given) → let o = call_in buf w g in is_taken o.answer ≡ false → (o.buffer ≡ buf) × (writer_or w o.answer ≡ w)
  -- A start stores the four bytes and no other; "14 if the buffer is shorter".
  pub start-stores : (buf : List ℕ) → 4 ≤ length buf → ((start_in buf).answer ≡ Ok first_writer) × (take 4 (start_in buf).buffer ≡ header) × (length (start_in buf).buffer ≡ length buf)
  pub start_outside : (buf : List ℕ) (i : ℕ) → 4 ≤ i → get_or (start_in buf).buffer i 0 ≡ get_or buf i 0
  pub start-short : (buf : List ℕ) → length buf < 4 → start_in buf ≡ record { answer = Err (record { number = 14; at = None }); buffer = buf }

-- ---- the rules

pub record RulesPromises : Type 0 where
  -- The writer refuses a record with just the number with which a reader would refuse its bytes: texts with a zero byte and records above the size limit, which have
  -- no such bytes, apart.
  pub same-rules : (c : Context) (g : Given) → WellTyped g → keeps_given 11 g ≡ true → size (written g) ≤ max_size → broken (rules_of c g) ≡ cond c.ended (Some 6) (fault_of c (written g))
  -- A refusal's number is 6 to 12, at the place "where it would begin", or 14, 15 or 16, which name none.
  pub numbered : (buf : List ℕ) (w : Writer) (g : Given)
      → IfErr (call_in buf w g).answer (λ r. ((6 ≤ r.number) × (r.number ≤ 12) × (r.at ≡ Some (offset_of w))) ⊎ ((14 ≤ r.number) × (r.number ≤ 16) × (r.at ≡ None)))
  -- After a record that is taken the writer goes on.
  pub goes_on : (buf : List ℕ) (w : Writer) (g : Given) → let a = (call_in buf w g).answer in is_taken a ≡ true → a ≡ Ok (writer_after w g)

-- ---- the calls of each kind

pub record CallsPromises : Type 0 where
  -- Where the parameters have their types, what is given is well typed: the promises above speak of every call. Each call of `cgx_write_calls` ensures it of what it gives
  -- (`ensures typed`).
  pub library : (version : ℕ) (munit uunit : List ℕ) (created modified : Date) (name : List ℕ) → version < 256 → IsDate created → IsDate modified → Bytes name → WellTyped (given_library version munit uunit created modified name)
  pub struct : (created modified : Date) (name : List ℕ) → IsDate created → IsDate modified → Bytes name → WellTyped (given_struct created modified name)
  pub cprpty : (number : ℤ) (value : List ℕ) → Long number → Bytes value → WellTyped (given_cprpty number value)
  pub property : (number : ℤ) (value : List ℕ) → Long number → Bytes value → WellTyped (given_property number value)
  pub layer : (number : LayerNo) (datatype : DataType) → Short number.0 → Short datatype.0 → WellTyped (given_layer number datatype None)
  pub named-layer : (number : LayerNo) (datatype : DataType) (name : List ℕ) → Short number.0 → Short datatype.0 → Bytes name → WellTyped (given_layer number datatype (Some name))
  pub box : (sides : List ℤ) → Longs sides → WellTyped (given_box sides)
  pub poly : (points : List ℤ) → Longs points → WellTyped (given_poly points)
  pub wire : (style : Option ℕ) (width : ℤ) (points : List ℤ) → style_of style < 256 → Long width → Longs points → WellTyped (given_wire style width points)
  pub text : (flags : ℕ) (at : Point) (width : ℤ) (label : List ℕ) → flags < 256 → IsPoint at → Long width → Bytes label → WellTyped (given_text flags at width label)
  pub sref : (flags : ℕ) (at : Point) (turn scale : List ℕ) (grid : Grid) (name : List ℕ) → flags < 256 → IsPoint at → IsGrid grid → Bytes name → WellTyped (given_sref flags at turn scale grid name)
  pub endlib : WellTyped given_endlib
  -- "a field whose SREF flag is off is ignored"
  pub ignored : (fl : ℕ) (at : Point) (turn turn' scale scale' : List ℕ) (grid grid' : Grid) (name : List ℕ)
      → (angle fl ≡ true → turn ≡ turn') → (magnif fl ≡ true → scale ≡ scale') → (array fl ≡ true → grid ≡ grid')
      → given_sref fl at turn scale grid name ≡ given_sref fl at turn' scale' grid' name

-- ---- Req 02: "Seconds 0 to 60 are accepted in all dates, by reader and writer; 61 is refused with 9."

-- The date with another second.
abbrev pub at_second : ℕ → Date → Date
at_second s d = record { year = d.year; month = d.month; day = d.day; hour = d.hour; minute = d.minute; second = s }

-- A call that is taken with some date is taken with every second up to 60 in it, and answered 9 with any other.
abbrev pub AnySecond : (Date → Given) → Type 0
AnySecond call = (buf : List ℕ) (w : Writer) (d : Date) (s : ℕ) → is_taken (call_in buf w (call d)).answer ≡ true → number_in (call_in buf w (call (at_second s d))).answer ≡ cond (leb s 60) None (Some 9)

pub record GivenSeconds : Type 0 where
  pub library-created : (version : ℕ) (munit uunit : List ℕ) (modified : Date) (name : List ℕ) → AnySecond (λ d. given_library version munit uunit d modified name)
  pub library-modified : (version : ℕ) (munit uunit : List ℕ) (created : Date) (name : List ℕ) → AnySecond (λ d. given_library version munit uunit created d name)
  pub struct-created : (modified : Date) (name : List ℕ) → AnySecond (λ d. given_struct d modified name)
  pub struct-modified : (created : Date) (name : List ℕ) → AnySecond (λ d. given_struct created d name)

-- ---- Req 08: "a wire written without an end style gets style 2"

pub record WireEnds : Type 0 where
  -- It is the call that states 2, in all that it answers and stores.
  pub unstated : (width : ℤ) (points : List ℤ) → given_wire None width points ≡ given_wire (Some 2) width points
  -- A style that is stated is the one that is written and meant.
  pub stated : (style : ℕ) (width : ℤ) (points : List ℤ) → let g = given_wire (Some style) width points in ((written g).flags ≡ style) × ((meant g).flags ≡ style)
  -- What else changes by it: no answer, since styles 0 to 2 are answered alike;
  pub answer : (buf : List ℕ) (w : Writer) (style other : ℕ) (width : ℤ) (points : List ℤ) → style ≤ 2 → other ≤ 2
      → (call_in buf w (given_wire (Some style) width points)).answer ≡ (call_in buf w (given_wire (Some other) width points)).answer
  -- and one byte of the buffer, the record's flags.
  pub buffer : (buf : List ℕ) (w : Writer) (style other : ℕ) (width : ℤ) (points : List ℤ)
      → let o = call_in buf w (given_wire (Some style) width points) in let o' = call_in buf w (given_wire (Some other) width points) in
      is_taken o.answer ≡ true → is_taken o'.answer ≡ true → o.buffer ≡ put o'.buffer (offset_of w + 3) (style ∷ [])
  -- A wire of width 10 through one point: size, type, flags, width, x, y.
  pub specimen : bytes_of (written (given_wire None (pos 10) (pos 1 ∷ negsuc 0 ∷ [])))
      ≡ 0 ∷ 16 ∷ 7 ∷ 2 ∷ 0 ∷ 0 ∷ 0 ∷ 10 ∷ 0 ∷ 0 ∷ 0 ∷ 1 ∷ 255 ∷ 255 ∷ 255 ∷ 255 ∷ []

-- ---- specimens

pub record Specimens : Type 0 where
  -- The calls of 01's drawing keep every rule, and write its normal form.
  pub drawing-whole : Whole first_writer drawing_calls
  pub drawing-file : file_of drawing_calls ≡ drawing_normal
  -- Req 02: the same with second 60 in all four dates.
  pub stamped-whole : Whole first_writer stamped_calls
  pub stamped-file : file_of stamped_calls ≡ stamped 60 60 60 60
  -- "4,096 boxes given to the writer: 15."
  pub boxes-4096 : (c : Context) (sides : List ℤ) → allowed_here c (given_box sides) ≡ true → in_order sides ≡ true → length sides ≡ 16384 → broken (rules_of c (given_box sides)) ≡ Some 15

pub record WriterPromises : Type 0 where
  pub round : RoundTrip
  pub untouched : Untouched
  pub rules : RulesPromises
  pub given : CallsPromises
  pub seconds : GivenSeconds
  pub ends : WireEnds
  pub specimens : Specimens
