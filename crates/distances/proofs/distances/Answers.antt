use native.Mathlib.Omega.{arith}
use Rattle.distances.proofs.Measured.{refused, shape, given, searched}
use mathlib.Core.Bool.{not}
use mathlib.Core.Path.{ap}
use Rattle.distances.proofs.distances.Goals as goal

pub returns-then-not-workable : goal.returns-then-not-workable
returns-then-not-workable c = let a = c.args in
    refused a.mask a.rows a.events a.start a.cells.now a.marks.now a.scratch.now _ c.workable.ensures (ap not c.if-not-workable.true)

pub overflow_cast-rows : goal.overflow_cast-rows
overflow_cast-rows c = let a = c.args in
    omega (arith, (shape a.mask a.rows a.events a.start a.cells.now a.marks.now a.scratch.now _ c.workable.ensures (ap not c.if-not-workable.false)).rows_fit)

pub overflow_cast-events : goal.overflow_cast-events
overflow_cast-events c = let a = c.args in
    omega (arith, (shape a.mask a.rows a.events a.start a.cells.now a.marks.now a.scratch.now _ c.workable.ensures (ap not c.if-not-workable.false)).events_fit)

pub search-requires : goal.search-requires
search-requires c = let a = c.args in
    given a.mask a.rows a.events a.start a.cells.now a.marks.now a.scratch.now _ c.workable.ensures (ap not c.if-not-workable.false)

pub returns : goal.returns
returns c = let a = c.args in
    searched a.mask a.rows a.events a.start a.cells.now a.marks.now a.scratch.now _ c.workable.ensures (ap not c.if-not-workable.false) c.search.new.scratch c.search.ensures
