use Prim.Native.Nat.{◌-◌}
use Rattle.rules.specs.Rules.{table_of}
use Rattle.renumbering.proofs.Lining.{Gone}
use Rattle.renumbering.proofs.go_through.Given as goal

abbrev pub invariant-loop-i : goal.invariant-loop-i
invariant-loop-i l = Gone (table_of l.n l.m l.start l.cells l.marks) l.initial.scratch l.i l.count l.scratch

abbrev pub decreases-loop-i : goal.decreases-loop-i
decreases-loop-i l = l.n - l.i
