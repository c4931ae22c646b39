use Rattle.text.proofs.Buffer.{puts_then, puts_first, puts_next}
use Rattle.loss_text.specs.LossText.{event_word}
use Rattle.loss_text.proofs.put_events.Goals as goal

pub loop-event-init : goal.loop-event-init
loop-event-init c = puts_first (event_word c.args.run.now) _ _

pub loop-event-preserved : goal.loop-event-preserved
unfolding event_word
loop-event-preserved c = puts_next (event_word c.args.run.now) c.loop-event.event-index c.loop-event.invariant (puts_then c.put_byte-spaced.ensures c.put_number-next.ensures)
