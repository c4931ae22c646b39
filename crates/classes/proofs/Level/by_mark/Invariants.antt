use Prim.Native.Nat.{◌*◌}
use Rattle.tables.specs.Table.{mark_of}
use Rattle.splitting.specs.Places.{Filled}
use Rattle.classes.specs.Steps.{row_of}
use Rattle.classes.proofs.Level.by_mark.Given as goal

abbrev pub invariant-loop-i : goal.invariant-loop-i
invariant-loop-i l = Filled l.self.n (6 * l.self.n) l.i (λ j. mark_of l.self.marks.now (row_of l.self l.initial.scratch j)) l.initial.scratch l.scratch
