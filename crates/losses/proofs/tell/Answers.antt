use native.Mathlib.Omega.{arith}
use Rattle.losses.proofs.Telling.{told-short, told-run}
use Rattle.losses.proofs.tell.Goals as goal

pub returns-then-run-length : goal.returns-then-run-length
returns-then-run-length c = let a = c.args in
    rw c.at.ensures (told-short a.rows a.events a.cells.now a.scratch.now a.row a.run.now c.into-into.ensures c.run_length-length.ensures c.if-run-length.true)

pub returns : goal.returns
returns c = let a = c.args in
    told-run a.rows a.events a.cells.now a.scratch.now a.row a.run.now c.into-into.ensures c.run_length-length.ensures (omega (arith, c.if-run-length.false)) c.walk.ensures.1 c.distance-distance.ensures
