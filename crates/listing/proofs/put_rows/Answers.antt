use Rattle.listing.specs.Listing.{row_line}
use Rattle.text.proofs.Buffer.{puts_first, puts_next}
use Rattle.listing.proofs.put_rows.Goals as goal

pub loop-row-init : goal.loop-row-init
loop-row-init c = let a = c.args in
    puts_first (row_line a.events a.cells.now a.marks.now) a.out.now a.at

pub loop-row-preserved : goal.loop-row-preserved
loop-row-preserved c = let a = c.args in
    puts_next (row_line a.events a.cells.now a.marks.now) c.loop-row.row c.loop-row.invariant c.put_row-next.ensures
