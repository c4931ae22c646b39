use Rattle.order.specs.Search.{graph_by, Settling}
use Rattle.order.proofs.settle.Given as goal

abbrev pub invariant-loop-k : goal.invariant-loop-k
invariant-loop-k l = Settling (graph_by l.rows l.events l.cells l.marks l.rows2 l.cells2 l.marks2) l.level l.k l.initial.scratch l.scratch
