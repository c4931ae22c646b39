use Rattle.lines.specs.Lines.{pair_line}
use Rattle.text.proofs.Buffer.{puts_then}
use Rattle.lines.proofs.put_pair.Goals as goal

pub returns : goal.returns
unfolding pair_line
returns c = puts_then (puts_then (puts_then c.put_number-numbered.ensures c.put_byte-spaced.ensures) c.put_number-paired.ensures) c.put_byte.ensures
