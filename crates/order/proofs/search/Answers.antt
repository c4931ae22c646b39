use mathlib.Core.Path.{refl}
use native.Mathlib.Omega.{arith}
use Rattle.order.proofs.Answers.{at_once, bare, no_difference, last-in, told-back-to}
use Rattle.order.proofs.search.Goals as goal

pub returns-then-told-ne0 : goal.returns-then-told-ne0
returns-then-told-ne0 c = let a = c.args in
    at_once a.rows a.events a.start a.cells.now a.marks.now a.rows2 a.start2 a.cells2.now a.marks2.now a.scratch.now c.requires c.lower-told.ensures c.if-told-ne0.true c.order_of.ensures

pub meet_pairs-requires-clause-bare : goal.meet_pairs-requires-clause-bare
meet_pairs-requires-clause-bare c = let a = c.args in
    bare a.rows a.events a.start a.cells.now a.marks.now a.rows2 a.start2 a.cells2.now a.marks2.now a.scratch.now c.requires c.needed.ensures c.clear.ensures c.lower-told.ensures (omega arith) c.place-at.ensures

pub returns-in_default : goal.returns-in_default
returns-in_default c = let a = c.args in
    no_difference a.rows a.events a.start a.cells.now a.marks.now a.rows2 a.start2 a.cells2.now a.marks2.now a.scratch.now c.requires c.needed.ensures c.clear.ensures c.place-at.ensures c.in_default.ensures refl

pub tell_back-requires-clause-last_nonzero : goal.tell_back-requires-clause-last_nonzero
tell_back-requires-clause-last_nonzero c = let a = c.args in
    last-in a.rows a.events a.start a.cells.now a.marks.now a.rows2 a.start2 a.cells2.now a.marks2.now a.scratch.now c.requires c.needed.ensures c.clear.ensures c.place-at.ensures c.in-Some.ensures.1 c.in-Some.ensures.0

pub returns : goal.returns
returns c = let a = c.args in
    let w = c.in-Some.ensures in
    told-back-to a.rows a.events a.start a.cells.now a.marks.now a.rows2 a.start2 a.cells2.now a.marks2.now a.scratch.now c.requires c.needed.ensures c.clear.ensures c.place-at.ensures w.1 w.0 c.tell_back.ensures c.cell.ensures c.order_of-2.ensures
