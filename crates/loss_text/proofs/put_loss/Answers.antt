use Rattle.text.proofs.Buffer.{puts_then}
use Rattle.loss_text.specs.LossText.{loss_line}
use Rattle.loss_text.proofs.put_loss.Goals as goal

pub returns : goal.returns
unfolding loss_line
returns c = let row = c.put_cell-numbered.ensures in
    let into = c.put_named-folded.ensures in
    let distance = c.put_named-measured.ensures in
    let word = c.put_text-worded.ensures in
    let events = c.put_events-listed.ensures in
    let end = c.put_byte.ensures in
    puts_then (puts_then (puts_then (puts_then (puts_then row into) distance) word) events) end
