use Prim.Native.Nat.{◌≤◌}
use Rattle.quick_depths.specs.Rounds.{Spread}
use Rattle.quick_depths.proofs.see_all.Given as goal

abbrev pub invariant-loop-q : goal.invariant-loop-q
invariant-loop-q l = Spread l.mask l.n l.m l.cells l.initial.scratch l.scratch × (l.count ≤ l.n)
