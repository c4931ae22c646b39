use Rattle.sheet_text.specs.Sheet.{none_line}
use Rattle.text.proofs.Buffer.{puts_then}
use Rattle.sheet_text.proofs.put_none.Goals as goal

pub returns : goal.returns
unfolding none_line
returns c = puts_then (puts_then c.put_text-worded.ensures c.put_cell-counted.ensures) c.put_byte.ensures
