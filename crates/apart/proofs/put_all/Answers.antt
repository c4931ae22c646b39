use Rattle.apart.proofs.Found.{put_next}
use Rattle.apart.proofs.put_all.Goals as goal

pub loop-q-preserved : goal.loop-q-preserved
loop-q-preserved c = let a = c.args in
    let l = c.loop-q in
    put_next a.rows a.scratch.now l.scratch c.folds_at-at.ensures c.requires c.loop-q-test.true l.invariant c.apart.ensures
