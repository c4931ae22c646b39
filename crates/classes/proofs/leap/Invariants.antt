use Prim.Native.Nat.{◌+◌, ◌≤◌, min}
use Rattle.splitting.specs.Places.{nxt_at, followers}
use Rattle.classes.proofs.Moves.{Doubling}
use Rattle.classes.proofs.leap.Given as goal

abbrev pub invariant-loop-before : goal.invariant-loop-before
invariant-loop-before l = Doubling l.n l.to l.size l.initial.scratch l.scratch × (followers (nxt_at l.n l.scratch) l.to + l.made ≤ followers (nxt_at l.n l.initial.scratch) l.to + l.initial.made) × (l.initial.made ≤ l.made) × (1 ≤ l.before)

abbrev pub decreases-loop-before : goal.decreases-loop-before
decreases-loop-before l = followers (nxt_at l.n l.scratch) l.to + min l.more 1
