-- The writers that a caller's words, calls and makers lead to come back from C as they went. Assumes nothing.
use Rattle.std.specs.Prelude.{Some, None, Option, Ok, Err}
use Rattle.cgx_spec.specs.Files.{header}
use mathlib.Core.Path.{◌≡◌, refl, sym, ap, subst, ◌∙◌}
use mathlib.Core.Bool.{Bool, true, false, cond}
use mathlib.Core.List.{List, [], ◌∷◌, ◌++◌}
use Prim.Native.Nat.{ℕ, zero, suc, ◌≤◌}
use native.Mathlib.Omega.{arith}
use lib.ListN.{length}
use borrow.Author.Tests.{ne_eqb, eqb-true, eqb-false}
use lib.Dec.{leb, eqb-suc-zero}
use Rattle.cgx_spec.specs.declared.Kind.{Kind}
use Rattle.cgx_spec.specs.declared.Kind.TheVariants.{Library, Struct, Cprpty, Property, Layer, Box, Poly, Wire, Text, Sref, Endlib}
use Rattle.cgx_spec.specs.declared.Run.{Run}
use Rattle.cgx_spec.specs.declared.Context.{Context}
use Rattle.cgx_spec.specs.Order.{longer, next}
use Rattle.cgx_spec.specs.Records.{bytes_of}
use Rattle.cgx_format_cursor.specs.declared.Cursor.{Cursor}
use Rattle.cgx_format_cursor.specs.Cursors.{run_in, run_first, run_count, context_in, place_in, state_of, cursor_of}
use Rattle.cgx_format_cursor.proofs.Laws.{number-back, first-in}
use Rattle.cgx_c_places.specs.Words.{cursor_words}
use Rattle.cgx_c_places.proofs.Places.{cursor-read, cursor-back}
use Rattle.buffers.specs.Put.{put}
use Rattle.cgx_write_given.specs.declared.Writer.{Writer}
use Rattle.cgx_write_given.specs.Given.{Given, written}
use Rattle.cgx_write_given.specs.Writing.{offset_of, context_of, first_writer, writer_after, writer_or, Answer, Outcome, is_taken, call_in, start_in, History, if_taken, calls, from_start}
use Rattle.cgx_write_given.specs.Typed.{AllWell}
use Rattle.cgx_write_given.specs.Demands.{ReadBack}
use Rattle.cgx_write_given.proofs.Promises.{writer-promises}
use Rattle.cgx_write_given.proofs.Calls.{by-outcome}
use Rattle.cgx_write_given.proofs.Unforged.{after_is}
use Rattle.cgx_write_makers.specs.Makers.{in_turn, all_in}
use Rattle.cgx_write_makers.proofs.Demand.{makers-demand}
use Rattle.cgx_c_writer.specs.Lent.{writer_in, words_after, Held, held_at_start, outcome_from, held_after, held_after_all, taken_from, EachWell}
use Rattle.cgx_c_writer.specs.Demand.{LentWriterDemand}
use Rattle.cgx_c_writer.proofs.Lent.{refused, untold}

-- ---- the cursor of a place: a run of none has no first

abbrev Placed : Cursor → Type 0
Placed c = c ≡ cursor_of (place_in c)

run-placed : (first count : ℕ) → (count ≡ 0 → first ≡ 0) → (first ≡ run_first (run_in first count)) × (count ≡ run_count (run_in first count))
unfolding run_in
run-placed first zero h = (h refl, refl)
run-placed first (suc n) h = rw (eqb-suc-zero n) (refl, refl)

placed : (c : Cursor) → (c.state.count ≡ 0 → c.state.first ≡ 0) → Placed c
unfolding cursor_of state_of place_in context_in
placed c h =
    let s = c.state in
    let r = run-placed s.first s.count h in
    λ i. record {
      at = c.at;
      state = record { cell = number-back s.cell i; layer = number-back s.layer i; first = r.0 i; count = r.1 i; library = s.library; fresh = s.fresh; ended = s.ended };
    }

-- ---- the writer after a record

longer-kept : (r : Option Run) (at : ℕ) → run_count (longer r at) ≡ 0 → run_first (longer r at) ≡ 0
longer-kept None at e = absurd (omega arith)
longer-kept (Some r) at e = absurd (omega arith)

state-kept : (c : Context) (at : ℕ) (k : Kind) → let s = state_of (next c at (Some k)) in s.count ≡ 0 → s.first ≡ 0
unfolding state_of
state-kept c at Library e = refl
state-kept c at Struct e = refl
state-kept c at Cprpty e = refl
state-kept c at Property e = longer-kept c.run at e
state-kept c at Layer e = refl
state-kept c at Box e = refl
state-kept c at Poly e = refl
state-kept c at Wire e = refl
state-kept c at Text e = refl
state-kept c at Sref e = refl
state-kept c at Endlib e = refl

after-placed : (w : Writer) (g : Given) → Placed (writer_after w g).cursor
after-placed w g = subst (λ (v : Writer). Placed v.cursor) (sym (after_is w g)) (placed _ (state-kept (context_of w) (offset_of w) g.kind))

-- ---- calls

-- the writer to go on with is placed, whichever of two placed ones a refusal leaves
or-placed : (v w : Writer) (a : Answer) → Placed (writer_or v a).cursor → Placed w.cursor → Placed (writer_or w a).cursor
or-placed v w (Ok x) h k = h
or-placed v w (Err r) h k = k

turns-placed : (gs : List Given) (buf : List ℕ) (w : Writer) → Placed w.cursor → Placed (writer_or w (in_turn buf w gs).answer).cursor
unfolding in_turn
turns-placed [] buf w h = h
turns-placed (g ∷ gs) buf w h =
    by-outcome (λ o. Placed (writer_or w (cond (is_taken o.answer) (in_turn o.buffer (writer_or w o.answer) gs) o).answer).cursor) buf w g
    (λ e. let v = writer_after w g in let b = put buf (offset_of w) (bytes_of (written g)) in or-placed v w (in_turn b v gs).answer (turns-placed gs b v (after-placed w g)) h)
    (λ m e. h)

-- ---- what is left says what was answered

back : (w : Writer) → Placed w.cursor → writer_in (cursor_words w.cursor) ≡ w
back w h = ap (λ (c : Cursor). record { cursor = c }) (cursor-back w.cursor h)

call-left : (buf w : List ℕ) (g : Given) → let a = (call_in buf (writer_in w) g).answer in writer_in (words_after w a) ≡ writer_or (writer_in w) a
call-left buf w g =
    by-outcome (λ o. writer_in (words_after w o.answer) ≡ writer_or (writer_in w) o.answer) buf (writer_in w) g
    (λ e. back (writer_after (writer_in w) g) (after-placed (writer_in w) g))
    (λ m e. refl)

maker-left : (buf w : List ℕ) (gs : List Given) → let a = (all_in buf (writer_in w) gs).answer in writer_in (words_after w a) ≡ writer_or (writer_in w) a
unfolding all_in
maker-left buf w gs = one (in_turn buf (writer_in w) gs).answer (turns-placed gs buf (writer_in w) (cursor-read w))
  where
    one : (a : Answer) → Placed (writer_or (writer_in w) a).cursor → writer_in (words_after w a) ≡ writer_or (writer_in w) a
    one (Ok v) h = back v h
    one (Err r) h = refl

-- ---- the start

first-placed : Placed first_writer.cursor
unfolding first_writer
first-placed = ap cursor_of (sym first-in)

start_left : (w : List ℕ) (a : Answer) → a ≡ Ok first_writer → writer_in (words_after w a) ≡ first_writer
start_left w a e = ap (λ (x : Answer). writer_in (words_after w x)) e ∙ back first_writer first-placed

abbrev either-start : List ℕ → Bool → Outcome
either-start buf b = cond b (record { answer = Ok first_writer; buffer = put buf 0 header }) (record { answer = Err (record { number = 14; at = None }); buffer = buf })

start_taken : (buf : List ℕ) → is_taken (start_in buf).answer ≡ true → (start_in buf).answer ≡ Ok first_writer
unfolding start_in
start_taken buf e = go (leb 4 (length buf)) e
  where
    go : (b : Bool) → is_taken (either-start buf b).answer ≡ true → (either-start buf b).answer ≡ Ok first_writer
    go true z = refl
    go false z = absurd (let x : ◌≡◌ {A = ℕ} 0 1 = cc in omega arith)

-- ---- calls and makers in a row

single : (buf : List ℕ) (w : Writer) (g : Given) → all_in buf w (g ∷ []) ≡ call_in buf w g
unfolding all_in in_turn
single buf w g =
    by-outcome
    (λ o. let t = cond (is_taken o.answer) (in_turn o.buffer (writer_or w o.answer) []) o in
    ◌≡◌ {A = Outcome} (record { answer = t.answer; buffer = cond (is_taken t.answer) t.buffer buf }) o)
    buf w g
    (λ e. refl)
    (λ m e. refl)

if-taken-more : (b : Bool) (g : Given) (xs gs : List Given) → cond b (g ∷ (xs ++ gs)) (xs ++ gs) ≡ cond b (g ∷ xs) xs ++ gs
if-taken-more true g xs gs = refl
if-taken-more false g xs gs = refl

calls-append : (fs gs : List Given) (buf : List ℕ) (w : Writer) → let h = calls buf w fs in let k = calls h.buffer h.writer gs in calls buf w (fs ++ gs) ≡ record { taken = h.taken ++ k.taken; writer = k.writer; buffer = k.buffer }
unfolding calls
calls-append [] gs buf w = refl
calls-append (f ∷ fs) gs buf w =
    let o = call_in buf w f in
    let h = calls o.buffer (writer_or w o.answer) fs in
    let k = calls h.buffer h.writer gs in
    ap (λ (x : History). record { taken = if_taken o.answer f x.taken; writer = x.writer; buffer = x.buffer }) (calls-append fs gs o.buffer (writer_or w o.answer))
    ∙ ap (λ (x : List Given). record { taken = x; writer = k.writer; buffer = k.buffer }) (if-taken-more (is_taken o.answer) f h.taken k.taken)

abbrev InTurn : Held → List (List Given) → Type 0
InTurn m gss = let n = held_after_all m gss in let gs = taken_from m gss in calls m.buffer (writer_in m.writer) gs ≡ record { taken = gs; writer = writer_in n.writer; buffer = n.buffer }

-- one more in front: o is its outcome, and k what those after it come to
module _ (buf : List ℕ) (w : Writer) (gs xs : List Given) (k : History) where
  more : (b : Bool) → is_taken (all_in buf w gs).answer ≡ b → let o = all_in buf w gs in calls o.buffer (writer_or w o.answer) xs ≡ k
      → calls buf w (cond b gs [] ++ xs) ≡ record { taken = cond b gs [] ++ k.taken; writer = k.writer; buffer = k.buffer }
  unfolding calls
  more true t e =
      let o = all_in buf w gs in
      let q = makers-demand.all buf w [] gs t in
      calls-append gs xs buf w
      ∙ ap (λ (h : History). record { taken = h.taken ++ (calls h.buffer h.writer xs).taken; writer = (calls h.buffer h.writer xs).writer; buffer = (calls h.buffer h.writer xs).buffer }) q
      ∙ ap (λ (h : History). record { taken = gs ++ h.taken; writer = h.writer; buffer = h.buffer }) e
  more false t e =
      let o = all_in buf w gs in
      let q = makers-demand.nothing buf w gs t in
      (λ i. calls (sym q.0 i) (sym q.1 i) xs) ∙ e

in-turn : (gss : List (List Given)) (m : Held) → InTurn m gss
unfolding held_after_all taken_from
in-turn [] m = unfold calls in refl
in-turn (gs ∷ gss) m =
    let o = outcome_from m gs in
    let n = held_after m gs in
    let xs = taken_from n gss in
    let q = maker-left m.buffer m.writer gs in
    let z = held_after_all n gss in
    more m.buffer (writer_in m.writer) gs xs (record { taken = xs; writer = writer_in z.writer; buffer = z.buffer }) (is_taken o.answer) refl
    (ap (λ (v : Writer). calls o.buffer v xs) (sym q) ∙ in-turn gss n)

-- ---- from a start on

well-append : (fs gs : List Given) → AllWell fs → AllWell gs → AllWell (fs ++ gs)
well-append [] gs f g = g
well-append (x ∷ fs) gs f g = (f.0, well-append fs gs f.1 g)

well-if : (b : Bool) (gs : List Given) → AllWell gs → AllWell (cond b gs [])
well-if true gs h = h
well-if false gs h = tt

well-taken : (gss : List (List Given)) (m : Held) → EachWell gss → AllWell (taken_from m gss)
unfolding taken_from
well-taken [] m h = tt
well-taken (gs ∷ gss) m h =
    let b = is_taken (outcome_from m gs).answer in
    well-append (cond b gs []) (taken_from (held_after m gs) gss) (well-if b gs h.0) (well-taken gss (held_after m gs) h.1)

read_back : (m : Held) (gss : List (List Given)) → 4 ≤ length m.buffer → EachWell gss → let b = held_at_start m in let n = held_after_all b gss in
    (context_of (writer_in n.writer)).ended ≡ true → ReadBack (record { taken = taken_from b gss; writer = writer_in n.writer; buffer = n.buffer })
unfolding from_start
read_back m gss e t z =
    let b = held_at_start m in
    let gs = taken_from b gss in
    let s = start_left m.writer (start_in m.buffer).answer (writer-promises.untouched.start-stores m.buffer e).0 in
    let q = ap (λ (v : Writer). calls (start_in m.buffer).buffer v gs) (sym s) ∙ in-turn gss b in
    subst ReadBack q (writer-promises.round.any-calls m.buffer gs e (well-taken gss b t) (ap (λ (h : History). (context_of h.writer).ended) q ∙ z))

pub lent-writer-demand : LentWriterDemand
lent-writer-demand =
    record {
      start = λ buf w e. start_left w (start_in buf).answer (start_taken buf e);
      call = λ buf w at g. call-left buf w g;
      maker = λ buf w at gs. maker-left buf w gs;
      single = single;
      in-turn = λ m gss. in-turn gss m;
      read_back = read_back;
      refusal = λ w at o z. refused w o.answer z;
      start-refusal = λ buf w z. refused w (start_in buf).answer z;
      unnamed = λ w at o e. untold at o.answer e;
    }
