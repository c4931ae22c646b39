use native.Mathlib.Omega.{arith}
use Rattle.quick_depths.proofs.Seeing.{spread_idle}
use Rattle.quick_depths.proofs.see_next.Goals as goal

pub returns : goal.returns
returns c = (spread_idle (omega arith) (omega arith) c.see_row.ensures.0, c.see_row.ensures.1)
