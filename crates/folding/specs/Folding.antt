-- What the search for folds leaves in scratch.
use Rattle.std.specs.Prelude.{cond, List, ℕ, length, replicate}
use Rattle.tables.specs.Lists.{tabulate, over}
use Rattle.tables.specs.Table.{Table, Offset, machine, events_of, weight_by}
use Rattle.tables.specs.Reduction.{fold}
use Rattle.pairs.specs.Pairs.{queue_start, folds_start, workable}
use Rattle.lengths.specs.Lengths.{lengths_in}

-- The row into which each row folds, in cells.
unfoldable pub fold_cells : (ℕ → ℕ) → Offset → Table → List ℕ
fold_cells weight k T = tabulate T.rows (fold (events_of weight T) (machine T) k)

-- The distances, the leads, a cleared queue and the folds.
unfoldable pub folded_in : ℕ → Offset → Table → List ℕ → List ℕ
folded_in mask k T s =
    cond (workable T (length s))
    (over (over (lengths_in mask T s) (queue_start T.rows) (replicate T.rows 0)) (folds_start T.rows) (fold_cells (weight_by mask) k T))
    s
