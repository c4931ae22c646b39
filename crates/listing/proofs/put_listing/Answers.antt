use Rattle.text.specs.Text.{joined}
use Rattle.listing.specs.Listing.{row_line, listing}
use Rattle.text.proofs.Buffer.{puts_then}
use Rattle.listing.proofs.put_listing.Goals as goal

pub returns : goal.returns
unfolding listing
returns c = let a = c.args in
    let head = c.put_head-tabled.ensures in
    let rows = c.put_rows-listed.ensures in
    let word = c.put_text-worded.ensures in
    let count = c.put_cell-numbered.ensures in
    let end = c.put_byte-ended.ensures in
    let records = c.put_records.ensures in
    puts_then (puts_then (puts_then (puts_then (puts_then {t = joined a.rows (row_line a.events a.cells.now a.marks.now)} head rows) word) count) end) records
