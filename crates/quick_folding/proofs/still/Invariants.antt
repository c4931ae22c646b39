use Rattle.quick_folding.specs.Parts.{Still}
use Rattle.quick_folding.proofs.still.Given as goal

abbrev pub invariant-loop-i : goal.invariant-loop-i
invariant-loop-i l = Still l.n l.i l.scratch
