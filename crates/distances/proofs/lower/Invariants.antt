use Rattle.distances.specs.Search.{Lowered}
use Rattle.distances.proofs.lower.Given as goal

abbrev pub invariant-loop-cell : goal.invariant-loop-cell
invariant-loop-cell l = Lowered l.cell-index l.level l.initial.cell-items l.cell-items
