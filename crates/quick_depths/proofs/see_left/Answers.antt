use Rattle.quick_depths.proofs.Seeing.{spread_counted}
use Rattle.quick_depths.proofs.see_left.Goals as goal

pub returns : goal.returns
returns c = (spread_counted c.requires.1 c.if-scratch-n-eq0.false c.see_row.ensures.0, c.see_row.ensures.1)
