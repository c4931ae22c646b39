use native.Mathlib.Omega.{arith}
use Rattle.sheet_counts.proofs.Counting.{settled-none, settled-next, settled-all}
use Rattle.sheet_counts.proofs.settle.Goals as goal

pub loop-k-init : goal.loop-k-init
loop-k-init c = settled-none c.args.rows c.args.list.now

pub loop-k-preserved : goal.loop-k-preserved
loop-k-preserved c = settled-next c.requires c.loop-k.invariant c.loop-k-test.true

pub returns : goal.returns
returns c = settled-all c.requires c.loop-k.invariant (omega arith)
