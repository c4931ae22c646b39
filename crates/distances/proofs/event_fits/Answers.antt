use Rattle.pairs.proofs.RowStarts.{pair_right}
use Rattle.distances.proofs.event_fits.Goals as goal

pub returns : goal.returns
returns c = cc (pair_right _ _ _ _ c.requires c.pair.ensures)
