use Rattle.distances.proofs.Moves.{settling_end}
use Rattle.distances.proofs.settle.Goals as goal

pub returns : goal.returns
returns c = settling_end c.loop.invariant c.sweep.ensures c.loop-test.false
