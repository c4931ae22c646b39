use Rattle.quick_folding.proofs.Takes.{taken_none, taken_hit, taken_miss, seating, row_is}
use Rattle.quick_folding.proofs.take_new.Goals as goal
use Rattle.quick_folding.proofs.take_new.Goals.{then-at-count, else-at-count}

pub loop-d-init : goal.loop-d-init
loop-d-init c = taken_none c.args.scratch.now

pub seat-at-requires : goal.seat-at-requires
seat-at-requires c = seating c.requires c.loop-d.invariant c.loop-d-test.true

pub loop-d-preserved : goal.loop-d-preserved
loop-d-preserved c = let p = c.requires in
    let i = c.loop-d.invariant in
    let h = c.loop-d-test.true in
    let r = row_is p i h in
    elim (c.if-at-count.branch) [
      | then-at-count w ↦ rw w.count-is (taken_hit p i h _ _ c.seat-at.ensures r w.if-at-count.true)
      | else-at-count w ↦ rw w.count-is (taken_miss p i h _ _ c.seat-at.ensures r w.if-at-count.false)
    ]
