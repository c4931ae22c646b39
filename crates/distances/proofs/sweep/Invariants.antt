use Rattle.scratch.specs.Scratch.{machine_by}
use Rattle.distances.specs.Search.{events_by, Turned, QuietRows}
use Rattle.distances.proofs.sweep.Given as goal

abbrev pub invariant-loop-q : goal.invariant-loop-q
invariant-loop-q l = Turned (events_by l.mask l.events) (machine_by l.rows l.events l.cells l.marks) (QuietRows (events_by l.mask l.events) (machine_by l.rows l.events l.cells l.marks) l.level l.q) l.level l.initial.scratch l.scratch l.changed
