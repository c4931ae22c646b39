use Rattle.text.specs.Text.{joined, Puts}
use Rattle.loss_text.specs.LossText.{event_word}
use Rattle.loss_text.proofs.put_events.Given as goal

abbrev pub invariant-loop-event : goal.invariant-loop-event
invariant-loop-event l = Puts l.initial.out l.at (joined l.event-index (event_word l.run)) l.out l.next
