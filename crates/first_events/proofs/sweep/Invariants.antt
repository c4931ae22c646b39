use Rattle.pairs.specs.Pairs.{triangle}
use Rattle.scratch.specs.Scratch.{machine_by}
use Rattle.distances.specs.Search.{events_by}
use Rattle.first_events.specs.Passes.{Swept}
use Rattle.first_events.proofs.sweep.Given as goal

abbrev pub invariant-loop-q : goal.invariant-loop-q
invariant-loop-q l = Swept l.pass (events_by l.mask l.events) (machine_by l.rows l.events l.cells l.marks) 0 (triangle l.q) l.initial.scratch l.scratch l.changed
