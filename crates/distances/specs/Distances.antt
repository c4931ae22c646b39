-- What the search for distances leaves in scratch.
use Rattle.std.specs.Prelude.{cond, List, ℕ, length}
use Rattle.tables.specs.Lists.{over}
use Rattle.tables.specs.Table.{Table, machine, events_of, weight_by}
use Rattle.tables.specs.Lengths.{distance}
use Rattle.pairs.specs.Pairs.{pairs, workable}
use Rattle.scratch.specs.Scratch.{len_cell}

-- The distance of each pair of rows, in cells.
unfoldable pub distance_cells : (ℕ → ℕ) → Table → List ℕ
distance_cells weight T = pairs (λ q p. len_cell (distance (events_of weight T) (machine T) q p)) T.rows

-- What the search leaves in scratch.
unfoldable pub measured : ℕ → Table → List ℕ → List ℕ
measured mask T s = cond (workable T (length s)) (over s 0 (distance_cells (weight_by mask) T)) s
