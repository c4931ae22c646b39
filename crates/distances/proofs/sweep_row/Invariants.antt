use Rattle.scratch.specs.Scratch.{machine_by}
use Rattle.distances.specs.Search.{events_by, Turned, QuietRow}
use Rattle.distances.proofs.sweep_row.Given as goal

abbrev pub invariant-loop-p : goal.invariant-loop-p
invariant-loop-p l = Turned (events_by l.mask l.events) (machine_by l.rows l.events l.cells l.marks) (QuietRow (events_by l.mask l.events) (machine_by l.rows l.events l.cells l.marks) l.level l.q l.p) l.level l.initial.scratch l.scratch l.changed
