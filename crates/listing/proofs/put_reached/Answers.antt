use Rattle.text.proofs.Buffer.{puts_then}
use Rattle.listing.proofs.put_reached.Goals as goal

pub returns : goal.returns
returns c = puts_then (puts_then c.put_text-worded.ensures c.put_cell-numbered.ensures) c.put_depth.ensures
