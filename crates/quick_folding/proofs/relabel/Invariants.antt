use Rattle.quick_folding.specs.Parts.{Relabelling}
use Rattle.quick_folding.proofs.relabel.Given as goal

abbrev pub invariant-loop-q : goal.invariant-loop-q
invariant-loop-q l = Relabelling l.n l.level l.q l.initial.scratch l.scratch
