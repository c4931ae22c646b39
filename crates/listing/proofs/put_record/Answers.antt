use Rattle.listing.specs.Listing.{record_line}
use Rattle.text.proofs.Buffer.{puts_then}
use Rattle.listing.proofs.put_record.Goals as goal

pub returns : goal.returns
unfolding record_line
returns c = puts_then c.put_cell-numbered.ensures c.put_fate.ensures
