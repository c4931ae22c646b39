use Prim.Native.Nat.{◌-◌, ◌≤◌}
use Rattle.quick_depths.specs.Leads.{Grows}
use Rattle.quick_depths.proofs.reach.Given as goal

abbrev pub invariant-loop-i : goal.invariant-loop-i
invariant-loop-i l = (l.count ≤ l.n) × (l.i ≤ l.n) × Grows l.mask l.n l.m l.cells l.initial.scratch l.scratch

abbrev pub decreases-loop-i : goal.decreases-loop-i
decreases-loop-i l = l.n - l.i
