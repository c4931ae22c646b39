use Rattle.quick_depths.proofs.Finding.{begun}
use Rattle.quick_depths.proofs.begin.Goals as goal

pub returns : goal.returns
returns c = begun _ c.requires.0 c.requires.2 c.requires.3 c.clear.ensures c.clear-2.ensures
