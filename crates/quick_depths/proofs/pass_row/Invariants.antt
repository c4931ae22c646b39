use Prim.Native.Nat.{◌≤◌}
use Rattle.quick_depths.specs.Leads.{Grows}
use Rattle.quick_depths.proofs.pass_row.Given as goal

abbrev pub invariant-loop-a : goal.invariant-loop-a
invariant-loop-a l = Grows l.mask l.n l.m l.cells l.initial.scratch l.scratch × (l.to ≤ l.n)
