use Prim.Native.Nat.{◌+◌}
use Rattle.pairs.specs.Pairs.{triangle}
use Rattle.scratch.specs.Scratch.{machine_by}
use Rattle.distances.specs.Search.{events_by}
use Rattle.first_events.specs.Passes.{Swept}
use Rattle.first_events.proofs.sweep_row.Given as goal

abbrev pub invariant-loop-p : goal.invariant-loop-p
invariant-loop-p l = Swept l.pass (events_by l.mask l.events) (machine_by l.rows l.events l.cells l.marks) (triangle l.q) (triangle l.q + l.p) l.initial.scratch l.scratch l.changed
