use mathlib.Core.Path.{sym, ap}
use Rattle.text.specs.Text.{decimal}
use Rattle.listing.specs.Listing.{target_word}
use Rattle.text.proofs.Buffer.{puts_as, puts_then, puts_first, puts_next}
use Rattle.listing.proofs.put_targets.Goals as goal

pub loop-event-init : goal.loop-event-init
loop-event-init c = let a = c.args in
    puts_first (target_word a.events a.cells.now a.row) a.out.now a.at

pub loop-event-preserved : goal.loop-event-preserved
unfolding target_word
loop-event-preserved c = let a = c.args in
    let t = puts_as (ap decimal (sym c.target.ensures)) c.put_cell-next.ensures in
    puts_next (target_word a.events a.cells.now a.row) c.loop-event.event c.loop-event.invariant (puts_then c.put_byte-next.ensures t)
