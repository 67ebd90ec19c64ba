-- A call is taken or refused, and its number says which. Assumes nothing.
use Rattle.std.specs.Prelude.{None, Option, Some, Ok, Err}
use mathlib.Core.Path.{◌≡◌, refl, sym, ap, subst}
use mathlib.Core.Bool.{Bool, true, false, ◌||◌, cond}
use mathlib.Core.List.{List, [], ◌∷◌}
use Prim.Native.Nat.{ℕ, ◌≤◌, ◌<◌}
use native.Mathlib.Omega.{arith}
use borrow.Author.Tests.{le-leb, lt-leb}
use lib.Dec.{T, leb}
use lib.ListN.{length}
use Rattle.cgx_spec.specs.declared.Refusal.{Refusal}
use Rattle.cgx_spec.specs.Dates.{within}
use Rattle.cgx_spec.specs.Fields.{every}
use Rattle.cgx_spec.specs.Records.{bytes_of, Rule, broken}
use Rattle.cgx_spec.specs.Files.{header}
use Rattle.cgx_spec.proofs.Lists.{every-cons}
use Rattle.buffers.specs.Put.{put}
use Rattle.cgx_write_given.specs.declared.Writer.{Writer}
use Rattle.cgx_write_given.specs.Given.{Given, written}
use Rattle.cgx_write_given.specs.Writing.{offset_of, first_writer, writer_after, rules_of, checks, named, Answer, answered, planned, Outcome, is_taken, call_in, start_in}

-- ---- the numbers of refusals

abbrev pub numbers : ℕ → Bool
numbers n = within 6 12 n || within 14 16 n

broken-numbers : (rs : List Rule) → T (every (λ r. numbers r.number) rs) → (n : ℕ) → broken rs ≡ Some n → T (numbers n)
unfolding broken
broken-numbers [] t n e = absurd (let z : ◌≡◌ {A = ℕ} 0 1 = cc in omega arith)
broken-numbers (r ∷ rs) t n e =
    let ts = every-cons (λ r. numbers r.number) r rs t in
    one r.kept (broken-numbers rs ts.1 n) ts.0 e
  where
    one : (k : Bool) → (broken rs ≡ Some n → T (numbers n)) → T (numbers r.number) → cond k (broken rs) (Some r.number) ≡ Some n → T (numbers n)
    one true f h e = f e
    one false f h e = subst (λ (m : ℕ). T (numbers m)) (let q : r.number ≡ n = cc in q) h

pub check-numbers : (n : ℕ) (w : Writer) (g : Given) (m : ℕ) → broken (checks n w g) ≡ Some m → T (numbers m)
unfolding checks rules_of
check-numbers n w g = broken-numbers (checks n w g) tt

-- ---- the two answers

abbrev pub taken : Writer → Given → Answer
taken w g = Ok (writer_after w g)

abbrev pub refused : Writer → ℕ → Answer
refused w n = Err (record { number = n; at = named n (offset_of w) })

pub by_answer : (P : Answer → Type 0) (n : ℕ) (w : Writer) (g : Given) → (broken (checks n w g) ≡ None → P (taken w g))
    → ((m : ℕ) → broken (checks n w g) ≡ Some m → P (refused w m)) → P (planned n w g)
unfolding planned answered
by_answer P n w g t r = one (broken (checks n w g)) refl
  where
    one : (o : Option ℕ) → broken (checks n w g) ≡ o → P (answered w g o)
    one None e = t e
    one (Some m) e = r m e

pub by-outcome : (P : Outcome → Type 0) (buf : List ℕ) (w : Writer) (g : Given)
    → (broken (checks (length buf) w g) ≡ None → P (record { answer = taken w g; buffer = put buf (offset_of w) (bytes_of (written g)) }))
    → ((m : ℕ) → broken (checks (length buf) w g) ≡ Some m → P (record { answer = refused w m; buffer = buf }))
    → P (call_in buf w g)
unfolding call_in
by-outcome P buf w g t r =
    by_answer (λ a. P (record { answer = a; buffer = cond (is_taken a) (put buf (offset_of w) (bytes_of (written g))) buf })) (length buf) w g t r

-- ---- what follows from a plan: the answer is the plan's, and a taken record is stored

module _ (buf : List ℕ) (w : Writer) (g : Given) where
  abbrev left_by : Answer → Outcome
  left_by a = record { answer = a; buffer = cond (is_taken a) (put buf (offset_of w) (bytes_of (written g))) buf }

  pub call-refused : (r : Refusal) → planned (length buf) w g ≡ Err r → record { answer = Err r; buffer = buf } ≡ call_in buf w g
  unfolding call_in
  call-refused r e = ap left_by (sym e)

  pub call-taken : (v : Writer) (out : List ℕ) → planned (length buf) w g ≡ Ok v → out ≡ put buf (offset_of w) (bytes_of (written g)) → record { answer = Ok v; buffer = out } ≡ call_in buf w g
  unfolding call_in
  call-taken v out e o = rw o (ap left_by (sym e))

-- ---- the start

pub starts : (buf out : List ℕ) → 4 ≤ length buf → out ≡ put buf 0 header → record { answer = Ok first_writer; buffer = out } ≡ start_in buf
unfolding start_in
starts buf out l o = let t : leb 4 (length buf) ≡ true = le-leb 4 (length buf) l in rw (t, o)

pub starts-not : (buf : List ℕ) → length buf < 4 → record { answer = Err (record { number = 14; at = None }); buffer = buf } ≡ start_in buf
unfolding start_in
starts-not buf l = let t : leb 4 (length buf) ≡ false = lt-leb 4 (length buf) l in rw t
