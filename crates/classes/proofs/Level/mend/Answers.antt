use native.Mathlib.Omega.{arith}
use Rattle.splitting.specs.Places.{nxt_at}
use Rattle.splitting.proofs.Counts.{followers_few}
use Rattle.classes.proofs.Moves.{kept_none, mending_less, mending_next}
use Rattle.classes.proofs.Level.mend.Goals as goal

pub loop-i-init : goal.loop-i-init
loop-i-init c = record { begun = c.requires.0; frame = kept_none; few = followers_few (nxt_at c.args.self.now.n c.args.scratch.now) c.args.self.now.to; small = omega arith; start = omega arith }

pub loop-i-smaller : goal.loop-i-smaller
loop-i-smaller c = mending_less c.args.self.now c.loop-i.invariant c.refine-made.ensures c.trace_all.ensures

pub loop-i-preserved : goal.loop-i-preserved
loop-i-preserved c = mending_next c.args.self.now c.loop-i.invariant c.refine-made.ensures c.trace_all.ensures _ _ c.again-poor.ensures c.hint-from.ensures
