-- The tests are in the order of the checks, and each outcome is one law.
use Rattle.std.specs.Prelude.{Some}
use Rattle.std.proofs.lemmas.Result.{err_from_is_err_and}
use mathlib.Core.Path.{sym, ap, ◌∙◌}
use Prim.Native.Nat.{◌+◌}
use native.Mathlib.Omega.{arith}
use borrow.Author.Tests.{le-leb, lt-leb}
use Rattle.cgx_spec.specs.Verdicts.{numbered}
use Rattle.cgx_spec.specs.Order.{allowed}
use Rattle.cgx_format_cursor.specs.Cursors.{context_in}
use Rattle.cgx_write_given.specs.Writing.{offset_of, context_of}
use Rattle.cgx_write_plans.proofs.Order.{chk16, chk6, chk_b, chk15, chk14, chk0, follows, ended-not, not-forged}
use Rattle.cgx_write_plans.proofs.first_check.Goals as goal

pub returns-then-is_forged : goal.returns-then-is_forged
returns-then-is_forged c = let a = c.args in
    chk16 a.room a.w a.k (numbered a.fault) a.size (sym c.is_forged.ensures ∙ c.if-is_forged.true)

pub returns-then-state : goal.returns-then-state
returns-then-state c = let a = c.args in
    chk6 a.room a.w a.k (numbered a.fault) a.size (sym c.is_forged.ensures ∙ c.if-is_forged.false) (ended-not (context_of a.w).ended (allowed (context_of a.w) (Some a.k)) (unfold context_in in c.if-state.true))

pub returns-then-not-allows : goal.returns-then-not-allows
returns-then-not-allows c = let a = c.args in
    chk6 a.room a.w a.k (numbered a.fault) a.size (sym c.is_forged.ensures ∙ c.if-is_forged.false) (follows (context_of a.w).ended (allowed (context_of a.w) (Some a.k)) (unfold context_in in c.if-state.false) ∙ sym c.allows.ensures ∙ c.if-not-allows.true)

pub returns-in_err-fault : goal.returns-in_err-fault
returns-in_err-fault c = let a = c.args in
    let p = err_from_is_err_and c.from_residual.result c.from_residual.ensures.1 in
    rw (p.1, p.2) (chk_b a.room a.w a.k (numbered a.fault) a.size (sym c.is_forged.ensures ∙ c.if-is_forged.false) (follows (context_of a.w).ended (allowed (context_of a.w) (Some a.k)) (unfold context_in in c.if-state.false) ∙ sym c.allows.ensures ∙ c.if-not-allows.false) _ (ap numbered c.in_err-fault.was))

pub returns-then-size-gt-MAX_SIZE : goal.returns-then-size-gt-MAX_SIZE
returns-then-size-gt-MAX_SIZE c = let a = c.args in
    chk15 a.room a.w a.k (numbered a.fault) a.size (sym c.is_forged.ensures ∙ c.if-is_forged.false) (follows (context_of a.w).ended (allowed (context_of a.w) (Some a.k)) (unfold context_in in c.if-state.false) ∙ sym c.allows.ensures ∙ c.if-not-allows.false) (ap numbered c.in_ok-fault.was) (lt-leb a.size 65534 c.if-size-gt-MAX_SIZE.true)

pub overflow_sub-room : goal.overflow_sub-room
overflow_sub-room c = let a = c.args in
    (not-forged a.room a.w (sym c.is_forged.ensures ∙ c.if-is_forged.false)).high

pub returns-then-room-w : goal.returns-then-room-w
returns-then-room-w c = let a = c.args in
    let g = (not-forged a.room a.w (sym c.is_forged.ensures ∙ c.if-is_forged.false)).high in
    chk14 a.room a.w a.k (numbered a.fault) a.size (sym c.is_forged.ensures ∙ c.if-is_forged.false) (follows (context_of a.w).ended (allowed (context_of a.w) (Some a.k)) (unfold context_in in c.if-state.false) ∙ sym c.allows.ensures ∙ c.if-not-allows.false) (ap numbered c.in_ok-fault.was) (le-leb a.size 65534 c.if-size-gt-MAX_SIZE.false) (lt-leb (offset_of a.w + a.size) a.room (let h = c.if-room-w.true in omega arith))

pub returns : goal.returns
returns c = let a = c.args in
    let g = (not-forged a.room a.w (sym c.is_forged.ensures ∙ c.if-is_forged.false)).high in
    chk0 a.room a.w a.k (numbered a.fault) a.size (sym c.is_forged.ensures ∙ c.if-is_forged.false) (follows (context_of a.w).ended (allowed (context_of a.w) (Some a.k)) (unfold context_in in c.if-state.false) ∙ sym c.allows.ensures ∙ c.if-not-allows.false) (ap numbered c.in_ok-fault.was) (le-leb a.size 65534 c.if-size-gt-MAX_SIZE.false) (le-leb (offset_of a.w + a.size) a.room (let h = c.if-room-w.false in omega arith))
