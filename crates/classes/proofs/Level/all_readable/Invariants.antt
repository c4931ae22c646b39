use Prim.Native.Nat.{ℕ, ◌<◌}
use Rattle.classes.specs.Steps.{Readable, row_of}
use Rattle.classes.proofs.Level.all_readable.Given as goal

abbrev pub invariant-loop-i : goal.invariant-loop-i
invariant-loop-i l = (j : ℕ) → j < l.i → Readable l.self l.scratch (row_of l.self l.scratch j)
