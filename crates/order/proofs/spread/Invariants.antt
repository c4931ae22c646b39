use Rattle.order.specs.Cells.{found_by}
use Rattle.order.specs.Search.{graph_by, Spreading}
use Rattle.order.proofs.spread.Given as goal

abbrev pub invariant-loop-k : goal.invariant-loop-k
invariant-loop-k l = Spreading (graph_by l.rows l.events l.cells l.marks l.rows2 l.cells2 l.marks2) l.level l.k 0 l.initial.scratch l.scratch (found_by l.most)
