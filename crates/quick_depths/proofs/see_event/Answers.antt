use Rattle.quick_depths.proofs.Seeing.{seen_by}
use Rattle.quick_depths.proofs.see_event.Goals as goal

pub returns : goal.returns
returns c = (seen_by c.requires.2 c.weight.ensures c.if-weight-w.false c.target-r.ensures.0 c.see.ensures.0, c.see.ensures.1)
