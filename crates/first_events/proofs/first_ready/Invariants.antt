use Prim.Native.Nat.{ℕ, ◌<◌}
use Rattle.pairs.specs.Pairs.{pair_at}
use Rattle.scratch.specs.Scratch.{machine_by}
use Rattle.distances.specs.Search.{events_by}
use Rattle.first_events.specs.Passes.{Ready}
use Rattle.first_events.proofs.first_ready.Given as goal

abbrev pub invariant-loop-event : goal.invariant-loop-event
invariant-loop-event l = (a : ℕ) → a < l.event → Ready (events_by l.mask l.events) (machine_by l.rows l.events l.cells l.marks) (pair_at l.scratch) l.distance l.q l.p a → ⊥
