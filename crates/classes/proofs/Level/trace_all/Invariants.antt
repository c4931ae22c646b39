use Rattle.classes.specs.Steps.{Spared}
use Rattle.classes.proofs.Level.trace_all.Given as goal

abbrev pub invariant-loop-i : goal.invariant-loop-i
invariant-loop-i l = Spared l.self.n l.initial.scratch l.scratch
