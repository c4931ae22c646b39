-- What `reduce` prints for the bytes that it reads.
use Rattle.std.specs.Prelude.{List, map, ℕ}
use Rattle.tables.specs.Table.{Table, Offset, weight_by}
use Rattle.tables.specs.Reduction.{reduced, records}
use Rattle.weights.specs.Weights.{counted}
use Rattle.recording.specs.Recorded.{record_of}
use Rattle.listing.specs.Listing.{listing}
use Rattle.image_text.specs.ImageText.{offset_text}

-- The listing of a table's reduction, where a mask says which events count.
unfoldable pub reduction_text : Offset → ℕ → Table → List ℕ
reduction_text k mask T =
    let U = reduced (weight_by mask) k T in
    listing U.rows U.events (counted mask U.events) U.cells U.marks T.rows (map record_of (records (weight_by mask) k T))

-- What is printed for an input.
unfoldable pub printed : List ℕ → List ℕ
printed input = offset_text reduction_text input
