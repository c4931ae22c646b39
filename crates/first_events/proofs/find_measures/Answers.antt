use native.Mathlib.Omega.{arith}
use Rattle.first_events.proofs.Whole.{refused, shape, given, distances-found, searched}
use mathlib.Core.Bool.{not}
use mathlib.Core.Path.{ap}
use Rattle.first_events.proofs.find_measures.Goals as goal

pub returns-then-not-distances : goal.returns-then-not-distances
returns-then-not-distances c = let a = c.args in
    let d = c.distances in
    refused a.mask a.rows a.events a.start a.cells.now a.marks.now a.scratch.now d.result d.ensures.0 (ap not c.if-not-distances.true) d.ensures.1

pub overflow_cast-rows : goal.overflow_cast-rows
overflow_cast-rows c = let a = c.args in
    let d = c.distances in
    omega (arith, (shape a.mask a.rows a.events a.start a.cells.now a.marks.now a.scratch.now d.result d.ensures.0 (ap not c.if-not-distances.false)).rows_fit)

pub overflow_cast-events : goal.overflow_cast-events
overflow_cast-events c = let a = c.args in
    let d = c.distances in
    omega (arith, (shape a.mask a.rows a.events a.start a.cells.now a.marks.now a.scratch.now d.result d.ensures.0 (ap not c.if-not-distances.false)).events_fit)

pub search-requires : goal.search-requires
search-requires c = let a = c.args in
    let d = c.distances in
    record { given = given a.mask a.rows a.events a.start a.cells.now a.marks.now a.scratch.now d.result d.ensures.0 (ap not c.if-not-distances.false) d.ensures.1; distances = distances-found a.mask a.rows a.events a.start a.cells.now a.marks.now a.scratch.now d.result d.ensures.0 (ap not c.if-not-distances.false) d.ensures.1 }

pub returns : goal.returns
returns c = let a = c.args in
    let d = c.distances in
    searched a.mask a.rows a.events a.start a.cells.now a.marks.now a.scratch.now d.result d.ensures.0 (ap not c.if-not-distances.false) d.ensures.1 c.search.ensures
