use native.Mathlib.Omega.{arith}
use Rattle.ordering.proofs.Pairs.{pairs_inside}
use Rattle.order.proofs.Levels.{framed_then}
use Rattle.order.proofs.Settles.{told_back, settle_framed}
use Rattle.order.proofs.tell_back.Goals as goal

pub loop-level-preserved : goal.loop-level-preserved
loop-level-preserved c =
    let g = c.requires.given_by in
    let l = c.loop-level.invariant in
    let w = c.settle.ensures in
    (omega arith, framed_then l.1 (settle_framed w), λ start h b. told_back h (pairs_inside g.first g.second) c.loop-level-test.true c.loop-level.auto.level c.requires.last_nonzero.1 (l.2 start h b) w)
