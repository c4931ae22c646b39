use Rattle.lines.specs.Lines.{refusal_line}
use Rattle.text.proofs.Buffer.{puts_then}
use Rattle.lines.proofs.put_refusal.Goals as goal

pub returns : goal.returns
unfolding refusal_line
returns c = puts_then c.put_text-worded.ensures c.put_pair.ensures
