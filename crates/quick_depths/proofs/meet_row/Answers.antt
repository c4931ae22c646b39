use Rattle.quick_depths.proofs.Growth.{grows_then, grows_space, grows_stays}
use Rattle.quick_depths.proofs.meet_row.Goals as goal

pub meet-to-requires : goal.meet-to-requires
meet-to-requires c = let i = c.loop-a.invariant in
    (grows_space i.0 c.requires.0, c.requires.1, c.loop-a-test.true, i.1, grows_stays i.0 c.args.p c.requires.1 c.requires.3)

pub loop-a-preserved : goal.loop-a-preserved
loop-a-preserved c = (grows_then c.loop-a.invariant.0 c.meet-to.ensures.0, c.meet-to.ensures.1)
