use Rattle.quick_depths.proofs.Growth.{grows_then}
use Rattle.quick_depths.proofs.pass_row.Goals as goal

pub loop-a-preserved : goal.loop-a-preserved
loop-a-preserved c = (grows_then c.loop-a.invariant.0 c.pass-to.ensures.0, c.pass-to.ensures.1)
