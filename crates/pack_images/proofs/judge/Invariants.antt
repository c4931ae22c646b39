use Rattle.pack_images.proofs.Judging.{Judging}
use Rattle.pack_images.proofs.judge.Given as goal

abbrev pub invariant-loop : goal.invariant-loop
invariant-loop l = Judging l.whole l.images l.count l.counter l.at l.cells l.marks
