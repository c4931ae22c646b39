use Rattle.sheet_counts.proofs.Counting.{Settled}
use Rattle.sheet_counts.proofs.settle.Given as goal

abbrev pub invariant-loop-k : goal.invariant-loop-k
invariant-loop-k l = Settled l.rows l.initial.list l.list l.left l.k
