use Rattle.text.proofs.Buffer.{puts_then}
use Rattle.loss_text.proofs.put_named.Goals as goal

pub returns : goal.returns
returns c = puts_then c.put_text-worded.ensures c.put_number.ensures
