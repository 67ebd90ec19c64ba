-- What is proved of the makers: calls in turn that are all taken are the writer's calls, and a refusal is the first of them. Assumes nothing.
use Rattle.std.specs.Prelude.{Ok, Err}
use mathlib.Core.Path.{◌≡◌, refl, sym, ap, ◌∙◌}
use mathlib.Core.Bool.{Bool, true, false, cond}
use mathlib.Core.List.{List, [], ◌∷◌, ◌++◌}
use Prim.Native.Nat.{ℕ, ◌≤◌}
use native.Mathlib.Omega.{arith}
use Rattle.std.proofs.lemmas.Bool.{true≢false}
use lib.IntN.{ℤ, pos}
use lib.ListN.{length}
use mir.Syntax.{w32}
use mir.Val.{SFits}
use Rattle.cgx_spec.specs.Numbers.{Bytes}
use Rattle.cgx_spec.specs.Records.{bytes_of}
use Rattle.buffers.specs.Put.{put}
use Rattle.cgx_write_given.specs.declared.Writer.{Writer}
use Rattle.cgx_write_given.specs.Given.{Given, written}
use Rattle.cgx_write_given.specs.Typed.{Longs, AllWell}
use Rattle.cgx_write_given.specs.Writing.{offset_of, writer_after, Answer, Outcome, is_taken, writer_or, call_in, History, if_taken, calls}
use Rattle.cgx_write_given.proofs.Calls.{by-outcome}
use Rattle.cgx_write_given.proofs.Calling.{calls-promises}
use Rattle.cgx_write_given.proofs.Ranges.{long-in}
use Rattle.cgx_write_makers.specs.Makers.{corners, card_style, card_calls, frame_calls, in_turn, all_in}
use Rattle.cgx_write_makers.specs.Demand.{MakersDemand}

-- ---- all

-- the writer after what is taken is the answer's
either : (v w : Writer) (a : Answer) → is_taken a ≡ true → writer_or v a ≡ writer_or w a
either v w (Ok x) z = refl
either v w (Err r) z = absurd (true≢false (sym z))

all-taken : (gs : List Given) (buf : List ℕ) (w : Writer) → let t = in_turn buf w gs in is_taken t.answer ≡ true → calls buf w gs ≡ record { taken = gs; writer = writer_or w t.answer; buffer = t.buffer }
unfolding in_turn calls
all-taken [] buf w = λ z. refl
all-taken (g ∷ gs) buf w =
    by-outcome
    (λ o. let t = cond (is_taken o.answer) (in_turn o.buffer (writer_or w o.answer) gs) o in let h = calls o.buffer (writer_or w o.answer) gs in
    let all : History = record { taken = if_taken o.answer g h.taken; writer = h.writer; buffer = h.buffer } in
    is_taken t.answer ≡ true → all ≡ record { taken = g ∷ gs; writer = writer_or w t.answer; buffer = t.buffer })
    buf w g
    (λ e z. let v = writer_after w g in let b = put buf (offset_of w) (bytes_of (written g)) in
    ap (λ (h : History). record { taken = g ∷ h.taken; writer = h.writer; buffer = h.buffer }) (all-taken gs b v z)
    ∙ ap (λ (x : Writer). record { taken = g ∷ gs; writer = x; buffer = (in_turn b v gs).buffer }) (either v w (in_turn b v gs).answer z))
    (λ m e z. absurd (true≢false (sym z)))

-- where all is taken, it is what the calls in turn leave
maker-is : (buf : List ℕ) (w : Writer) (gs : List Given) → let o = all_in buf w gs in is_taken o.answer ≡ true → calls buf w gs ≡ record { taken = gs; writer = writer_or w o.answer; buffer = o.buffer }
unfolding all_in
maker-is buf w gs z =
    let t = in_turn buf w gs in
    all-taken gs buf w z ∙ ap (λ (b : Bool). record { taken = gs; writer = writer_or w t.answer; buffer = cond b t.buffer buf }) (sym z)

if-taken-more : (b : Bool) (g : Given) (xs gs : List Given) → cond b (g ∷ (xs ++ gs)) (xs ++ gs) ≡ cond b (g ∷ xs) xs ++ gs
if-taken-more true g xs gs = refl
if-taken-more false g xs gs = refl

all : (before gs : List Given) (buf : List ℕ) (w : Writer) → let h = calls buf w before in let o = all_in h.buffer h.writer gs in
    is_taken o.answer ≡ true → calls buf w (before ++ gs) ≡ record { taken = h.taken ++ gs; writer = writer_or h.writer o.answer; buffer = o.buffer }
unfolding calls
all [] gs buf w e = maker-is buf w gs e
all (g ∷ before) gs buf w e =
    let v = call_in buf w g in
    let k = calls v.buffer (writer_or w v.answer) before in
    let o = all_in k.buffer k.writer gs in
    ap (λ (h : History). record { taken = if_taken v.answer g h.taken; writer = h.writer; buffer = h.buffer }) (all before gs v.buffer (writer_or w v.answer) e)
    ∙ ap (λ (x : List Given). record { taken = x; writer = writer_or k.writer o.answer; buffer = o.buffer }) (if-taken-more (is_taken v.answer) g k.taken gs)

-- ---- or nothing

-- what is answered where an answer in turn is a refusal
nothing-done : (buf b : List ℕ) (a : Answer) → is_taken a ≡ false → ◌≡◌ {A = Outcome} (record { answer = a; buffer = cond (is_taken a) b buf }) (record { answer = a; buffer = buf })
nothing-done buf b a h = rw h

refused-writer : (w : Writer) (a : Answer) → is_taken a ≡ false → writer_or w a ≡ w
refused-writer w (Ok v) h = absurd (true≢false h)
refused-writer w (Err r) h = refl

nothing : (buf : List ℕ) (w : Writer) (gs : List Given) → let o = all_in buf w gs in is_taken o.answer ≡ false → (o.buffer ≡ buf) × (writer_or w o.answer ≡ w)
unfolding all_in
nothing buf w gs h =
    let t = in_turn buf w gs in
    let q = nothing-done buf t.buffer t.answer h in
    ((λ i. (q i).buffer), refused-writer w t.answer h)

-- ---- the first refusal

if-taken-length : (b : Bool) (g : Given) (xs gs : List Given) → length xs ≤ length gs → length (cond b (g ∷ xs) xs) ≤ length (g ∷ gs)
if-taken-length true g xs gs h = omega arith
if-taken-length false g xs gs h = omega arith

no_more : (gs : List Given) (buf : List ℕ) (w : Writer) → length (calls buf w gs).taken ≤ length gs
unfolding calls
no_more [] buf w = omega arith
no_more (g ∷ gs) buf w = let v = call_in buf w g in let k = calls v.buffer (writer_or w v.answer) gs in if-taken-length (is_taken v.answer) g k.taken gs (no_more gs v.buffer (writer_or w v.answer))

module _ (g : Given) (gs : List Given) where
  stops : (before : List Given) (buf : List ℕ) (w : Writer) → let h = calls buf w before in let a = (call_in h.buffer h.writer g).answer in
      h.taken ≡ before → is_taken a ≡ false → (in_turn buf w (before ++ (g ∷ gs))).answer ≡ a
  unfolding calls in_turn
  stops [] buf w = λ t n. rw n
  stops (f ∷ before) buf w =
      by-outcome
      (λ o. let h = calls o.buffer (writer_or w o.answer) before in let a = (call_in h.buffer h.writer g).answer in
      if_taken o.answer f h.taken ≡ f ∷ before → is_taken a ≡ false → (cond (is_taken o.answer) (in_turn o.buffer (writer_or w o.answer) (before ++ (g ∷ gs))) o).answer ≡ a)
      buf w f
      (λ e t n. stops before (put buf (offset_of w) (bytes_of (written f))) (writer_after w f) (cc) n)
      (λ m e t n. absurd (omega (arith, ap length t, no_more before buf w)))

first : (buf : List ℕ) (w : Writer) (before gs : List Given) (g : Given) → let h = calls buf w before in let a = (call_in h.buffer h.writer g).answer in
    h.taken ≡ before → is_taken a ≡ false → all_in buf w (before ++ (g ∷ gs)) ≡ record { answer = a; buffer = buf }
unfolding all_in
first buf w before gs g t n =
    let h = calls buf w before in
    let b = (in_turn buf w (before ++ (g ∷ gs))).buffer in
    ap (λ (a : Answer). record { answer = a; buffer = cond (is_taken a) b buf }) (stops g gs before buf w t n) ∙ nothing-done buf b (call_in h.buffer h.writer g).answer n

-- ---- the makers' records

module _ (left bottom right top : ℤ) (h : Longs (left ∷ bottom ∷ right ∷ top ∷ [])) where
  card : AllWell (card_calls left bottom right top)
  card =
      let l = h.0 in
      let b = h.1.0 in
      let r = h.1.1.0 in
      let t = h.1.1.1.0 in
      let cs : Longs (corners left bottom right top) = (l, (b, (r, (b, (r, (t, (l, (t, (l, (b, tt)))))))))) in (
        calls-promises.layer (record { 0 = pos 1 }) (record { 0 = pos 0 }) (omega arith) (omega arith),
        (calls-promises.wire card_style (pos 2) (corners left bottom right top) (omega arith) (omega arith) cs, tt),
      )

  frame : (label : List ℕ) → Bytes label → AllWell (frame_calls left bottom right top label)
  frame label w =
      (card.0, (card.1.0, (calls-promises.text 0 (record { x = left; y = bottom }) (pos 2) label (omega arith) (record { x = h.0; y = h.1.0 }) (omega arith) w, tt)))

pub makers-demand : MakersDemand
makers-demand =
    record {
      all = λ buf w before gs. all before gs buf w;
      nothing = nothing;
      first = first;
      card = card;
      frame = λ l b r t label h w. frame l b r t h label w;
    }

-- ---- of sides that are parameters of the code

module _ (left bottom right top : ℤ) (l : SFits w32 left) (b : SFits w32 bottom) (r : SFits w32 right) (t : SFits w32 top) where
  sides : Longs (left ∷ bottom ∷ right ∷ top ∷ [])
  sides = (long-in left l.sfits, (long-in bottom b.sfits, (long-in right r.sfits, (long-in top t.sfits, tt))))

  pub card-typed : AllWell (card_calls left bottom right top)
  card-typed = makers-demand.card left bottom right top sides

  pub frame-typed : (label : List ℕ) → Bytes label → AllWell (frame_calls left bottom right top label)
  frame-typed label h = makers-demand.frame left bottom right top label sides h
