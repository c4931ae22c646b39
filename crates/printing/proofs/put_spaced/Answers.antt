use Rattle.text.proofs.Buffer.{puts_then}
use Rattle.printing.proofs.put_spaced.Goals as goal

pub returns : goal.returns
returns c = puts_then c.put_byte-next.ensures c.put_number.ensures
