use Rattle.classes.specs.Steps.{Spared}
use Rattle.classes.proofs.Level.trace.Given as goal

abbrev pub invariant-loop-a : goal.invariant-loop-a
invariant-loop-a l = Spared l.self.n l.initial.scratch l.scratch
