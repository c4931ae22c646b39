use Rattle.sheet_counts.proofs.Counting.{Tallied}
use Rattle.sheet_counts.proofs.tally.Given as goal

abbrev pub invariant-loop-q : goal.invariant-loop-q
invariant-loop-q l = Tallied l.from l.rows l.scratch l.count l.fn.list l.list l.q
