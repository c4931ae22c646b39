-- What is left in scratch for all pairs of rows: the leads of a table's rows, and how far each is from the rows before it.
use Rattle.std.specs.Prelude.{◌≡◌, true, false, cond, List, ℕ, ◌≤◌, ltb, length, get_or}
use Rattle.tables.specs.Table.{Table, machine, events_of, weight_by}
use Rattle.pairs.specs.Pairs.{triangle, needed, workable}
use Rattle.quick_folding.specs.Parting.{Aparts}

-- The cell from which on the leads stand: behind the pairs, or in front where there are none.
abbrev pub leads_from : ℕ → ℕ
leads_from rows = cond (ltb rows 17) (triangle rows) 0

-- From s to t they have been found, and nothing has changed beyond the cells that this needs.
pub record FoundAt (from mask : ℕ) (T : Table) (s t : List ℕ) : Type 0 where
  pub size : length t ≡ length s
  pub aparts : Aparts (events_of (weight_by mask) T) (machine T) from t
  pub beyond : (i : ℕ) → needed T.rows ≤ i → get_or t i 0 ≡ get_or s i 0

-- It is so where the table is valid and there is room; elsewhere nothing has changed.
pub record Finding (from mask : ℕ) (T : Table) (s t : List ℕ) : Type 0 where
  pub found : workable T (length s) ≡ true → FoundAt from mask T s t
  pub unchanged : workable T (length s) ≡ false → t ≡ s
