use Rattle.text.specs.Text.{joined, Puts}
use Rattle.listing.specs.Listing.{row_line}
use Rattle.listing.proofs.put_rows.Given as goal

abbrev pub invariant-loop-row : goal.invariant-loop-row
invariant-loop-row l = Puts l.initial.out l.at (joined l.row (row_line l.events l.cells l.marks)) l.out l.next
