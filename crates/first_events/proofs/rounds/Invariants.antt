use Prim.Native.Nat.{◌-◌}
use Rattle.scratch.specs.Scratch.{machine_by}
use Rattle.distances.specs.Search.{events_by}
use Rattle.first_events.specs.Rounds.{Framed, Reached}
use Rattle.first_events.proofs.rounds.Given as goal

abbrev pub invariant-loop-most : goal.invariant-loop-most
invariant-loop-most l = record {
  framed : Framed (machine_by l.rows l.events l.cells l.marks) l.initial.scratch l.scratch;
  reached : Reached (events_by l.mask l.events) (machine_by l.rows l.events l.cells l.marks) (l.most - 2) l.scratch;
}
