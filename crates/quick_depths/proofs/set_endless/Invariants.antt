use Rattle.quick_depths.proofs.Left.{Setting}
use Rattle.quick_depths.proofs.set_endless.Given as goal

abbrev pub invariant-loop-q : goal.invariant-loop-q
invariant-loop-q l = Setting l.mask l.n l.m l.cells l.initial.scratch l.scratch
