use Rattle.splitting.proofs.Splitting.{Splitting}
use Rattle.splitting.proofs.split_all.Given as goal

abbrev pub invariant-loop-i : goal.invariant-loop-i
invariant-loop-i l = Splitting l.n l.size l.i l.initial.scratch l.scratch l.made
