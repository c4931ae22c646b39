use native.Mathlib.Omega.{arith}
use Rattle.quick_depths.proofs.Growth.{grows_then}
use Rattle.quick_depths.proofs.reach.Goals as goal

pub loop-i-preserved : goal.loop-i-preserved
loop-i-preserved c = (c.meet_next-count.ensures.1, omega (arith, c.loop-i.invariant.0, c.loop-i-test.true), grows_then c.loop-i.invariant.2 c.meet_next-count.ensures.0)
