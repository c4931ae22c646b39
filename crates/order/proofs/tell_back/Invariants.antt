use Prim.Native.Nat.{ℕ, ◌-◌, ◌<◌}
use Rattle.order.specs.Search.{graph_by, Framed, Told}
use Rattle.order.proofs.tell_back.Given as goal

abbrev pub invariant-loop-level : goal.invariant-loop-level
invariant-loop-level l = (0 < l.level) × Framed (graph_by l.rows l.events l.cells l.marks l.rows2 l.cells2 l.marks2) l.initial.scratch l.scratch × ((start : ℕ) → start < (graph_by l.rows l.events l.cells l.marks l.rows2 l.cells2 l.marks2).places → Told (graph_by l.rows l.events l.cells l.marks l.rows2 l.cells2 l.marks2) start (l.last - 1) (l.last - 1) l.initial.scratch → Told (graph_by l.rows l.events l.cells l.marks l.rows2 l.cells2 l.marks2) start (l.last - 1) (l.level - 1) l.scratch)
