use Rattle.splitting.specs.Places.{nxt_at, followers}
use Rattle.classes.proofs.Moves.{Mending}
use Rattle.classes.specs.Steps.{values_of}
use Rattle.classes.proofs.Level.mend.Given as goal

abbrev pub invariant-loop-i : goal.invariant-loop-i
invariant-loop-i l = Mending l.self.n (values_of l.self l.initial.scratch) l.self.cells.now l.initial.scratch l.scratch l.left l.poor l.from

abbrev pub decreases-loop-i : goal.decreases-loop-i
decreases-loop-i l = followers (nxt_at l.self.n l.scratch) l.self.to
