-- The file's verdict and the length of its normal form, then the room, then the copy (`Rests`).
use mathlib.Core.Path.{sym}
use native.Mathlib.Omega.{arith}
use Rattle.std.proofs.lemmas.Result.{err_from_is_err_and}
use Rattle.cgx_spec.specs.Files.{Accepted}
use Rattle.cgx_read_check.proofs.Turns.{verdict-is, length-is}
use Rattle.cgx_normal_form.proofs.Rests.{made-refused, made-short, made-whole}
use Rattle.cgx_normal_form.proofs.normal_form.Goals as goal

pub returns-in_err-length-clause-value : goal.returns-in_err-length-clause-value
returns-in_err-length-clause-value c = let p = err_from_is_err_and c.from_residual.result c.from_residual.ensures.1 in
    rw (p.1, p.2) (made-refused c.args.file.now c.args.out.now (sym (verdict-is c.args.file.now c.measure.ensures c.in_err-length.was))).0

pub returns-in_err-length-clause-output : goal.returns-in_err-length-clause-output
returns-in_err-length-clause-output c = (made-refused c.args.file.now c.args.out.now (sym (verdict-is c.args.file.now c.measure.ensures c.in_err-length.was))).1

pub returns-then-out-length-clause-value : goal.returns-then-out-length-clause-value
returns-then-out-length-clause-value c = rw c.nowhere.ensures (made-short c.args.file.now c.args.out.now (sym (verdict-is c.args.file.now c.measure.ensures c.in_ok-length.was)) (length-is c.args.file.now c.measure.ensures c.in_ok-length.was) c.if-out-length.true).0

pub returns-then-out-length-clause-output : goal.returns-then-out-length-clause-output
returns-then-out-length-clause-output c = (made-short c.args.file.now c.args.out.now (sym (verdict-is c.args.file.now c.measure.ensures c.in_ok-length.was)) (length-is c.args.file.now c.measure.ensures c.in_ok-length.was) c.if-out-length.true).1

pub copy_records-requires : goal.copy_records-requires
unfolding Accepted
copy_records-requires c = (sym (verdict-is c.args.file.now c.measure.ensures c.in_ok-length.was), (let e = length-is c.args.file.now c.measure.ensures c.in_ok-length.was in let l = c.if-out-length.false in omega arith))

pub returns-clause-value : goal.returns-clause-value
returns-clause-value c = (made-whole c.args.file.now c.args.out.now (sym (verdict-is c.args.file.now c.measure.ensures c.in_ok-length.was)) _ (length-is c.args.file.now c.measure.ensures c.in_ok-length.was) c.if-out-length.false c.copy_records.ensures).0

pub returns-clause-output : goal.returns-clause-output
returns-clause-output c = (made-whole c.args.file.now c.args.out.now (sym (verdict-is c.args.file.now c.measure.ensures c.in_ok-length.was)) _ (length-is c.args.file.now c.measure.ensures c.in_ok-length.was) c.if-out-length.false c.copy_records.ensures).1
