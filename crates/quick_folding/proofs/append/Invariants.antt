use Rattle.quick_folding.specs.Parts.{Appended}
use Rattle.quick_folding.proofs.append.Given as goal

abbrev pub invariant-loop-x : goal.invariant-loop-x
invariant-loop-x l = Appended l.n l.u l.i l.x l.initial.scratch l.scratch
