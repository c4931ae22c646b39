use mathlib.Core.Path.{ap, sym}
use Rattle.listing.specs.Listing.{mark_words, row_line}
use Rattle.text.proofs.Buffer.{puts_as, puts_then}
use Rattle.listing.proofs.put_row.Goals as goal

pub returns : goal.returns
unfolding row_line
returns c = let m = puts_as (ap mark_words (sym c.mark.ensures)) c.put_mark.ensures in
    puts_then (puts_then c.put_cell-numbered.ensures c.put_targets-targeted.ensures) m
