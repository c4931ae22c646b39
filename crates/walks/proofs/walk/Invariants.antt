use Rattle.walks.proofs.Following.{Following}
use Rattle.walks.proofs.walk.Given as goal

abbrev pub invariant-loop-count : goal.invariant-loop-count
invariant-loop-count l = Following l.cells l.events l.scratch l.rows l.q l.p l.initial.run l.run l.at l.i l.j l.count
