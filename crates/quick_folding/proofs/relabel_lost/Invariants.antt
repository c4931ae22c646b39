use Rattle.quick_folding.specs.Parts.{Losing}
use Rattle.quick_folding.proofs.relabel_lost.Given as goal

abbrev pub invariant-loop-x : goal.invariant-loop-x
invariant-loop-x l = Losing l.n l.level l.x l.initial.scratch l.scratch
