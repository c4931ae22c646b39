use native.Mathlib.Omega.{arith}
use Rattle.ordering.proofs.Pairs.{pairs_inside}
use Rattle.order.proofs.Settles.{settle-pair, settle_other}
use Rattle.order.proofs.settle.Goals as goal
use Rattle.order.proofs.settle.Goals.{then-scratch-k, else-scratch-k}

pub loop-k-preserved : goal.loop-k-preserved
loop-k-preserved c =
    let g = c.requires.given_by in
    let inside = pairs_inside g.first g.second in
    let small = c.requires.level_nonzero.1 in
    let l = c.loop-k.invariant in
    elim c.if-scratch-k.branch [
      | then-scratch-k w ↦ rw w.scratch-is (settle-pair small l inside (omega arith) (omega arith) w.if-scratch-k.true (omega (arith, w.first_told-told.ensures.0)))
      | else-scratch-k w ↦ rw w.scratch-is (settle_other small l inside (omega arith) w.if-scratch-k.false)
    ]
