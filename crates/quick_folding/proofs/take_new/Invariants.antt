use Rattle.quick_folding.specs.Parts.{Taken}
use Rattle.quick_folding.proofs.take_new.Given as goal

abbrev pub invariant-loop-d : goal.invariant-loop-d
invariant-loop-d l = Taken l.n l.u l.d l.count l.initial.scratch l.scratch
