use native.Mathlib.Omega.{arith}
use Rattle.ordering.proofs.Pairs.{pairs_inside}
use Rattle.order.proofs.Spreads.{spread-other, level_before}
use Rattle.order.proofs.spread.Goals as goal
use Rattle.order.proofs.spread.Goals.{then-scratch-k, else-scratch-k}

pub loop-k-preserved : goal.loop-k-preserved
loop-k-preserved c =
    let g = c.requires.given_by in
    let inside = pairs_inside g.first g.second in
    let pos = c.requires.level_nonzero.0 in
    let l = c.loop-k.invariant in
    elim c.if-scratch-k.branch [
      | then-scratch-k w ↦ rw (w.scratch-is, w.most-is) (w.spread_pair-most.ensures.goes _ pos (level_before inside g.room pos l c.loop-k.k (omega arith) w.if-scratch-k.true) l)
      | else-scratch-k w ↦ rw (w.scratch-is, w.most-is) (spread-other inside g.room pos l (omega arith) (omega arith) w.if-scratch-k.false)
    ]
