use Rattle.depths.specs.Steps.{Workspace, Risen, QuietRow}
use Rattle.depths.proofs.Moves.{Steps}
use Rattle.depths.proofs.sweep.Given as goal

abbrev pub invariant-loop-row : goal.invariant-loop-row
invariant-loop-row l = Risen l.initial.scratch l.scratch l.changed × (Workspace l.rows l.events l.cells l.initial.scratch → Steps l.mask l.rows l.events l.cells (QuietRow l.mask) l.initial.scratch l.scratch l.changed l.row)
