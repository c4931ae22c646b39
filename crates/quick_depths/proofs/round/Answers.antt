use Rattle.quick_depths.proofs.Left.{round_of}
use Rattle.quick_depths.proofs.round.Goals as goal

pub returns : goal.returns
returns c = round_of c.requires.room c.clear.ensures c.see_all-count.ensures.0 c.see_more.ensures c.keep_seen.ensures
