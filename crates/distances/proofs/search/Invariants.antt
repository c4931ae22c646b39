use Prim.Native.Nat.{◌-◌}
use Rattle.scratch.specs.Scratch.{machine_by}
use Rattle.distances.specs.Search.{events_by}
use Rattle.distances.proofs.Rising.{Rising}
use Rattle.distances.proofs.search.Given as goal

abbrev pub invariant-loop-level : goal.invariant-loop-level
invariant-loop-level l = Rising (events_by l.mask l.events) (machine_by l.rows l.events l.cells l.marks) l.level l.initial.scratch l.scratch

abbrev pub decreases-loop-level : goal.decreases-loop-level
decreases-loop-level l = l.rows - l.level
