use Rattle.quick_depths.proofs.Growth.{same_space, grows_then, grows_marked, grows_size}
use Rattle.quick_depths.proofs.endless.Goals as goal

pub set_endless-requires : goal.set_endless-requires
set_endless-requires c = (same_space (same_space c.requires (grows_size c.loop.invariant)) c.round.ensures.marked.size, c.round.ensures.whole c.if-not-round.true)

pub returns-then-not-round : goal.returns-then-not-round
returns-then-not-round c = grows_then (grows_then c.loop.invariant (grows_marked c.round.ensures.marked)) c.set_endless.ensures

pub loop-preserved : goal.loop-preserved
loop-preserved c = grows_then c.loop.invariant (grows_marked c.round.ensures.marked)

pub returns-else-not-round : goal.returns-else-not-round
returns-else-not-round c = grows_then c.loop.invariant (grows_marked c.round.ensures.marked)
