use Prim.Native.Nat.{◌≤◌}
use Rattle.leaders.specs.Leaders.{InHand, Kept}
use Rattle.leaders.specs.Steps.{JoiningIn}
use Rattle.leaders.proofs.step_all.Given as goal

abbrev pub invariant-loop-i : goal.invariant-loop-i
invariant-loop-i l = (l.lost ≤ l.i) × Kept l.n l.initial.scratch l.scratch × (InHand l.n l.m l.to l.cells l.initial.scratch → JoiningIn l.mask l.n l.m l.u l.to l.known l.last l.cells l.from l.initial.scratch l.initial.scratch 0 → JoiningIn l.mask l.n l.m l.u l.to l.known l.last l.cells l.i l.initial.scratch l.scratch l.lost)
