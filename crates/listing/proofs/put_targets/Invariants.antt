use Rattle.text.specs.Text.{joined, Puts}
use Rattle.listing.specs.Listing.{target_word}
use Rattle.listing.proofs.put_targets.Given as goal

abbrev pub invariant-loop-event : goal.invariant-loop-event
invariant-loop-event l = Puts l.initial.out l.at (joined l.event (target_word l.events l.cells l.row)) l.out l.next
