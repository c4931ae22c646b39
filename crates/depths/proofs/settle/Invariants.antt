use Rattle.depths.specs.Steps.{Workspace}
use Rattle.depths.proofs.Moves.{ahead, Settling}
use Rattle.depths.proofs.settle.Given as goal

abbrev pub invariant-loop-again : goal.invariant-loop-again
invariant-loop-again l = Workspace l.rows l.events l.cells l.initial.scratch → Settling l.mask l.rows l.events l.cells l.initial.scratch l.scratch l.again

abbrev pub decreases-loop-again : goal.decreases-loop-again
decreases-loop-again l = ahead l.scratch l.again
