use mathlib.Core.Path.{sym, ap}
use Rattle.listing.specs.Listing.{record_line}
use Rattle.text.proofs.Buffer.{puts_as, puts_first, puts_next}
use Rattle.listing.proofs.put_records.Invariants.{line}
use Rattle.listing.proofs.put_records.Goals as goal

pub loop-row-init : goal.loop-row-init
loop-row-init c = puts_first (line c.args.records) c.args.out.now c.args.at

pub loop-row-preserved : goal.loop-row-preserved
loop-row-preserved c = let l = c.loop-row in
    puts_next (line c.args.records) l.row l.invariant (puts_as (sym (ap (record_line l.row) c.record_of.ensures)) c.put_record-next.ensures)
