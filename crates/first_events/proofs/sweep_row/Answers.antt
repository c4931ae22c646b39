use Rattle.scratch.specs.Scratch.{machine_by}
use Rattle.distances.specs.Search.{events_by}
use Rattle.first_events.proofs.Sweeps.{swept_one, swept_then}
use Rattle.first_events.proofs.sweep_row.Goals as goal

pub loop-p-preserved : goal.loop-p-preserved
loop-p-preserved c = let a = c.args in
    let l = c.loop-p in
    swept_then l.invariant (swept_one a.pass (events_by a.mask a.events) (machine_by a.rows a.events a.cells.now a.marks.now) a.q l.p c.requires.q_lt_rows.1 c.requires.q_lt_rows.0 c.loop-p-test.true c.visit-changed.ensures)
