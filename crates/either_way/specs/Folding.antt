-- What folding leaves in scratch, on whichever way's.
use Rattle.std.specs.Prelude.{◌≡◌, true, false, List, ℕ, ◌≤◌, length, get_or}
use Rattle.tables.specs.Table.{Table, Offset, machine, events_of, weight_by}
use Rattle.scratch.specs.Scratch.{workable_in}
use Rattle.scratch.specs.Folds.{Folds}

-- From s to t the rows have been folded, and nothing has changed beyond the cells that this needs.
pub record FoldedBy (need : ℕ → ℕ) (mask : ℕ) (k : Offset) (T : Table) (s t : List ℕ) : Type 0 where
  pub size : length t ≡ length s
  pub folds : Folds (events_of (weight_by mask) T) (machine T) k t
  pub beyond : (i : ℕ) → need T.rows ≤ i → get_or t i 0 ≡ get_or s i 0

-- It is so where the table is valid and there is room; elsewhere nothing has changed.
pub record Folding (need : ℕ → ℕ) (mask : ℕ) (k : Offset) (T : Table) (s t : List ℕ) : Type 0 where
  pub folded : workable_in need T (length s) ≡ true → FoldedBy need mask k T s t
  pub unchanged : workable_in need T (length s) ≡ false → t ≡ s
