use native.Mathlib.Omega.{arith}
use Rattle.quick_depths.proofs.Growth.{grows_then}
use Rattle.quick_depths.proofs.pass_rows.Goals as goal

pub loop-i-preserved : goal.loop-i-preserved
loop-i-preserved c = (c.pass_next-count.ensures.1, omega (arith, c.loop-i.invariant.0, c.loop-i-test.true), grows_then c.loop-i.invariant.2 c.pass_next-count.ensures.0)
