use Prim.Native.Nat.{◌<◌}
use Rattle.depths.specs.Steps.{Workspace, Risen, Quiet}
use Rattle.depths.proofs.Moves.{Steps}
use Rattle.depths.proofs.sweep_row.Given as goal

abbrev pub invariant-loop-event : goal.invariant-loop-event
invariant-loop-event l = Risen l.initial.scratch l.scratch l.changed × (Workspace l.rows l.events l.cells l.initial.scratch → l.row < l.rows → Steps l.mask l.rows l.events l.cells (λ T s x. Quiet l.mask T s l.row x) l.initial.scratch l.scratch l.changed l.event)
