use Rattle.leaders.specs.Steps.{Seeded}
use Rattle.leaders.proofs.seed.Given as goal

abbrev pub invariant-loop-c : goal.invariant-loop-c
invariant-loop-c l = Seeded l.n l.known l.c l.initial.scratch l.scratch
