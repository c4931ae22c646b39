use mathlib.Core.Path.{◌≡◌}
use Rattle.apart.specs.Steps.{apart_at}
use Rattle.apart.proofs.apart.Given as goal

abbrev pub invariant-loop-p : goal.invariant-loop-p
invariant-loop-p l = l.least ≡ apart_at l.rows l.scratch l.q l.p
