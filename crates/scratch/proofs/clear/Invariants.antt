use mathlib.Core.Path.{◌≡◌}
use Prim.Native.Nat.{◌-◌, ◌≤◌}
use lib.ListN.{replicate}
use Rattle.tables.specs.Lists.{over}
use Rattle.scratch.proofs.clear.Given as goal

abbrev pub invariant-loop-i : goal.invariant-loop-i
invariant-loop-i l = (l.i - l.from ≤ l.to - l.from) × (l.cells ≡ over l.initial.cells l.from (replicate (l.i - l.from) 0))
