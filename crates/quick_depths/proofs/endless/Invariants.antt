use Rattle.quick_depths.specs.Leads.{Grows}
use Rattle.quick_depths.proofs.endless.Given as goal

abbrev pub invariant-loop : goal.invariant-loop
invariant-loop l = Grows l.mask l.n l.m l.cells l.initial.scratch l.scratch
