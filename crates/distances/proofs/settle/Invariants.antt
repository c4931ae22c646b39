use Rattle.scratch.specs.Scratch.{machine_by}
use Rattle.distances.specs.Search.{events_by, occurrences}
use Rattle.distances.proofs.Moves.{Settling}
use Rattle.distances.proofs.settle.Given as goal

abbrev pub invariant-loop : goal.invariant-loop
invariant-loop l = Settling (events_by l.mask l.events) (machine_by l.rows l.events l.cells l.marks) l.level l.initial.scratch l.scratch

abbrev pub decreases-loop : goal.decreases-loop
decreases-loop l = occurrences l.level l.scratch
