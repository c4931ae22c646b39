use Rattle.splitting.specs.Places.{front, Filled}
use Rattle.classes.specs.Values.{place_in}
use Rattle.classes.specs.Steps.{row_of}
use Rattle.classes.proofs.Level.by_event.Given as goal

abbrev pub invariant-loop-i : goal.invariant-loop-i
invariant-loop-i l = Filled l.self.n l.at l.i (λ j. place_in l.self.n l.self.m l.self.cells.now (front l.self.n l.initial.scratch) (row_of l.self l.initial.scratch j) l.a) l.initial.scratch l.scratch
