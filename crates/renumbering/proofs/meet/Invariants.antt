use Rattle.renumbering.proofs.Meeting.{Met}
use Rattle.renumbering.proofs.meet.Given as goal

abbrev pub invariant-loop-a : goal.invariant-loop-a
invariant-loop-a l = Met l.cells l.initial.scratch l.n l.m l.row l.count-2 l.a l.count l.scratch
