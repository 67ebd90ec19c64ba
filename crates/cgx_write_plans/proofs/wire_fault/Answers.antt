-- Each outcome is one law of the rules of a WIRE.
use mathlib.Core.Bool.{true, false}
use lib.ListN.{length}
use Rattle.cgx_write_given.specs.Given.{style_of}
use Rattle.cgx_write_plans.proofs.Faults.{wire-style, wire-is, pairs-uneven, pairs-few, pairs-enough}
use Rattle.cgx_write_plans.proofs.wire_fault.Goals as goal

pub returns-then-style_flags-gt-MAX_FLAGS : goal.returns-then-style_flags-gt-MAX_FLAGS
returns-then-style_flags-gt-MAX_FLAGS c = let a = c.args in
    let f = c.style_flags in
    wire-style (style_of a.style) f.result (length a.points.now) f.ensures c.if-style_flags-gt-MAX_FLAGS.true

pub returns-then-points-ne0 : goal.returns-then-points-ne0
returns-then-points-ne0 c = let a = c.args in
    let f = c.style_flags in
    wire-is (style_of a.style) f.result (length a.points.now) f.ensures false c.if-style_flags-gt-MAX_FLAGS.false (pairs-uneven (length a.points.now) c.if-points-ne0.true)

pub returns-then-points : goal.returns-then-points
returns-then-points c = let a = c.args in
    let f = c.style_flags in
    wire-is (style_of a.style) f.result (length a.points.now) f.ensures false c.if-style_flags-gt-MAX_FLAGS.false (pairs-few (length a.points.now) c.if-points.true)

pub returns : goal.returns
returns c = let a = c.args in
    let f = c.style_flags in
    wire-is (style_of a.style) f.result (length a.points.now) f.ensures true c.if-style_flags-gt-MAX_FLAGS.false (pairs-enough (length a.points.now) c.if-points-ne0.false c.if-points.false)
