use native.Mathlib.Omega.{arith}
use Rattle.quick_depths.proofs.Growth.{grows_met}
use Prim.Native.Nat.{◌+◌, ◌*◌}
use Rattle.quick_depths.proofs.meet.Goals as goal

pub returns : goal.returns
returns c = (grows_met (5 * c.args.n + c.args.count) _ c.requires.0 c.requires.1 c.requires.2 c.requires.4 c.target-r.ensures.0 c.tally.ensures (omega arith) (omega arith), omega arith)
