use Prim.Native.Nat.{◌*◌, ◌+◌}
use lib.ListN.{get_or}
use Rattle.splitting.specs.Places.{Filled, jump_at}
use Rattle.classes.proofs.by_jump.Given as goal

abbrev pub invariant-loop-i : goal.invariant-loop-i
invariant-loop-i l = Filled l.n (6 * l.n) l.i (λ j. get_or l.initial.scratch (l.from + jump_at l.n l.initial.scratch j) 0) l.initial.scratch l.scratch
