use Rattle.lines.specs.Lines.{head_line}
use Rattle.text.proofs.Buffer.{puts_then}
use Rattle.lines.proofs.put_head.Goals as goal

pub returns : goal.returns
unfolding head_line
returns c = puts_then (puts_then (puts_then c.put_text-worded.ensures c.put_number-rowed.ensures) c.put_byte-spaced.ensures) c.put_pair.ensures
