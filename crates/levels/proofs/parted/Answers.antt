use Rattle.levels.proofs.Cells.{far_none, far_some}
use Rattle.levels.proofs.parted.Goals as goal

pub returns-then-lost-eq0 : goal.returns-then-lost-eq0
returns-then-lost-eq0 c = far_none c.args.lost c.if-lost-eq0.true

pub returns : goal.returns
returns c = far_some c.args.lost c.if-lost-eq0.false
