use Rattle.classes.specs.Steps.{led_by}
use Rattle.classes.proofs.Parts.{Parting}
use Rattle.classes.proofs.Level.part.Given as goal

abbrev pub invariant-loop-i : goal.invariant-loop-i
invariant-loop-i l = Parting l.self.n l.c l.v l.like (led_by l.self l.initial.scratch l.a) l.initial.scratch l.scratch l.i l.first
