use Rattle.quick_depths.proofs.Left.{setting_next}
use Rattle.quick_depths.proofs.set_endless.Goals as goal

pub loop-q-preserved : goal.loop-q-preserved
loop-q-preserved c = setting_next c.loop-q.q c.requires.0 c.requires.1 c.loop-q.invariant c.loop-q-test.true c.set_row.ensures
