-- What the search for depths leaves in scratch.
use Rattle.std.specs.Prelude.{cond, List, ℕ, length}
use Rattle.tables.specs.Lists.{tabulate, over}
use Rattle.tables.specs.Lengths.{lead}
use Rattle.tables.specs.Table.{Table, machine, events_of, weight_by}
use Rattle.pairs.specs.Pairs.{leads_at, workable}
use Rattle.scratch.specs.Scratch.{len_cell}

-- The lead of each row, in cells: one more than its depth, 0 where it is unreached.
unfoldable pub lead_cells : (ℕ → ℕ) → Table → List ℕ
lead_cells weight T = tabulate T.rows (λ q. len_cell (lead (events_of weight T) (machine T) q))

-- What the search leaves in scratch.
unfoldable pub plumbed : ℕ → Table → List ℕ → List ℕ
plumbed mask T s = cond (workable T (length s)) (over s (leads_at T.rows) (lead_cells (weight_by mask) T)) s
