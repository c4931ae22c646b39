-- What the search for distances and first events leaves in scratch.
use Rattle.std.specs.Prelude.{cond, List, ℕ, length}
use Rattle.tables.specs.Lists.{over}
use Rattle.tables.specs.Table.{Table, machine, events_of, weight_by}
use Rattle.pairs.specs.Pairs.{pairs, workable}
use Rattle.measures.specs.Measures.{cell_for}

-- The distance of each pair of rows and how its chosen run begins, in cells.
unfoldable pub measure_cells : (ℕ → ℕ) → Table → List ℕ
measure_cells weight T = pairs (cell_for (events_of weight T) (machine T)) T.rows

-- What the search leaves in scratch.
unfoldable pub told : ℕ → Table → List ℕ → List ℕ
told mask T s = cond (workable T (length s)) (over s 0 (measure_cells (weight_by mask) T)) s
