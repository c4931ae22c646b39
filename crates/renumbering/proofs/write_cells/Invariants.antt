use mathlib.Core.Path.{◌≡◌}
use Prim.Native.Nat.{◌+◌, ◌*◌}
use lib.ListN.{take}
use Rattle.tables.specs.Lists.{tabulate, over}
use Rattle.renumbering.specs.Line.{target_of_new}
use Rattle.renumbering.proofs.write_cells.Given as goal

abbrev pub invariant-loop-i : goal.invariant-loop-i
invariant-loop-i l = l.out ≡ over l.initial.out 0 (take (l.i * l.m) (tabulate (l.count * l.m) (target_of_new l.cells l.n l.m l.scratch)))

abbrev pub invariant-loop-a : goal.invariant-loop-a
invariant-loop-a l = l.out ≡ over l.fn.out 0 (take (l.i * l.m + l.a) (tabulate (l.count * l.m) (target_of_new l.cells l.n l.m l.scratch)))
