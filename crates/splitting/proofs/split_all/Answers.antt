use mathlib.Core.Path.{◌≡◌}
use native.Mathlib.Omega.{arith}
use Rattle.splitting.specs.Places.{nxt_at}
use Rattle.splitting.proofs.Counts.{followers_few}
use Rattle.splitting.proofs.Splitting.{split_begins, split_turning, split_hit, split_miss, split_ends}
use Rattle.splitting.proofs.split_all.Goals as goal
use Rattle.splitting.proofs.split_all.Goals.{then-split_one, else-split_one}

pub loop-i-init : goal.loop-i-init
loop-i-init c = split_begins c.requires c.clear.ensures

pub split_one-requires : goal.split_one-requires
split_one-requires c = split_turning c.requires c.clear.ensures c.loop-i-test.true c.loop-i.invariant

-- no more leaders than places
pub overflow_add-made : goal.overflow_add-made
overflow_add-made c = omega (arith, followers_few (nxt_at c.args.n c.clear.new.cells) c.loop-i.i)

pub loop-i-preserved : goal.loop-i-preserved
loop-i-preserved c =
    let l = c.loop-i in
    let turn = c.split_one.ensures in
    elim c.if-split_one.branch [
      | then-split_one w ↦ rw w.made-is (split_hit c.requires c.clear.ensures c.loop-i-test.true l.invariant turn w.if-split_one.true)
      | else-split_one w ↦ rw w.made-is (split_miss c.requires c.clear.ensures c.loop-i-test.true l.invariant turn w.if-split_one.false)
    ]

pub returns : goal.returns
returns c =
    let l = c.loop-i in
    let all : l.i ≡ c.args.to = omega arith in
    split_ends c.requires c.clear.ensures (rw all at l.invariant)
