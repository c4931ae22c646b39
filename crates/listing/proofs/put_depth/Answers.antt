use mathlib.Core.Path.{ap}
use Rattle.listing.specs.Listing.{depth_words}
use Rattle.text.proofs.Buffer.{puts_as, puts_then}
use Rattle.listing.proofs.put_depth.Goals as goal

pub returns-in-Number : goal.returns-in-Number
unfolding depth_words
returns-in-Number c = puts_as (ap depth_words c.in-Number.is)
    (puts_then (puts_then c.put_text-worded.ensures c.put_cell-numbered.ensures) c.put_byte.ensures)

pub returns-in-Endless : goal.returns-in-Endless
unfolding depth_words
returns-in-Endless c = puts_as (ap depth_words c.in-Endless.is) c.put_text.ensures
