use Prim.Native.Nat.{◌≤◌}
use Rattle.quick_depths.specs.Rounds.{Seen, ByEvent}
use Rattle.quick_depths.proofs.see_row.Given as goal

abbrev pub invariant-loop-a : goal.invariant-loop-a
invariant-loop-a l = Seen l.n (ByEvent l.mask l.m l.cells l.p l.w) l.initial.scratch l.scratch × (l.to ≤ l.n)
