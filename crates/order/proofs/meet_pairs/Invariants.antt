use Prim.Native.Nat.{◌-◌}
use Rattle.order.specs.Search.{graph_by, Climbing}
use Rattle.order.proofs.meet_pairs.Given as goal

abbrev pub invariant-loop-level : goal.invariant-loop-level
invariant-loop-level l = Climbing (graph_by l.rows l.events l.cells l.marks l.rows2 l.cells2 l.marks2) l.start (l.level - 1) l.initial.scratch l.scratch
