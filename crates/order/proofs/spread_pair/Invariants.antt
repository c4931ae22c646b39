use Rattle.order.specs.Cells.{found_by}
use Rattle.order.specs.Search.{graph_by, Going}
use Rattle.order.proofs.spread_pair.Given as goal

abbrev pub invariant-loop-event : goal.invariant-loop-event
invariant-loop-event l = Going (graph_by l.rows l.events l.cells l.marks l.rows2 l.cells2 l.marks2) l.level l.k l.initial.scratch (found_by l.initial.found) l.event l.scratch (found_by l.found)
