-- What both ways of folding leave in the lent scratch.
use Rattle.std.specs.Prelude.{◌≡◌, true, List, ℕ, ◌+◌, ◌*◌, ◌<◌, get_or}
use Rattle.automata.specs.Runs.{Events, Machine}
use Rattle.tables.specs.Lengths.{lead, reached}
use Rattle.tables.specs.Table.{Offset}
use Rattle.tables.specs.Reduction.{fold}
use Rattle.scratch.specs.Scratch.{len_cell}

-- In front stand the leads of the rows of M; two regions further, where a region has a cell for each row, the rows into which the reached ones fold.
pub record Folds (E : Events) (M : Machine) (k : Offset) (s : List ℕ) : Type 0 where
  pub leads : (q : ℕ) → q < M.rows → get_or s q 0 ≡ len_cell (lead E M q)
  pub folds : (q : ℕ) → q < M.rows → reached E M q ≡ true → get_or s (2 * M.rows + q) 0 ≡ fold E M k q
