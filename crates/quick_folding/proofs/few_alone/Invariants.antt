use Rattle.quick_folding.specs.Parts.{Alone}
use Rattle.quick_folding.proofs.few_alone.Given as goal

abbrev pub invariant-loop-x : goal.invariant-loop-x
invariant-loop-x l = Alone l.n l.x l.scratch
