use Rattle.rules.specs.Rules.{table_of}
use Rattle.quick_depths.proofs.Told.{not_valid, no_room, ready, answered}
use Rattle.quick_depths.proofs.depths.Goals as goal
use Rattle.quick_depths.proofs.depths.Goals.{then-not-valid-via-then-not-valid, then-not-valid-via-else-not-valid+then-scratch-rows}

pub returns-then-not-valid : goal.returns-then-not-valid
returns-then-not-valid c = let a = c.args in
    let T = table_of a.rows a.events a.start a.cells.now a.marks.now in
    elim c.then-not-valid.branch [
      | then-not-valid-via-then-not-valid w ↦ not_valid a.mask T a.scratch.now c.valid.result c.valid.ensures w.if-not-valid.true
      | then-not-valid-via-else-not-valid+then-scratch-rows w ↦ no_room a.mask T a.scratch.now c.valid.result c.valid.ensures w.if-not-valid.false w.if-scratch-rows.true
    ]

pub search-requires : goal.search-requires
search-requires c = let a = c.args in
    ready a.mask (table_of a.rows a.events a.start a.cells.now a.marks.now) a.scratch.now c.valid.result c.valid.ensures c.if-not-valid.false c.if-scratch-rows.false

pub returns : goal.returns
returns c = let a = c.args in
    answered a.mask (table_of a.rows a.events a.start a.cells.now a.marks.now) a.scratch.now c.valid.result c.valid.ensures c.if-not-valid.false c.if-scratch-rows.false
    (c.search.ensures a.marks.now)
