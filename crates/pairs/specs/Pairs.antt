-- What stands where in scratch for all pairs of rows: "rows × (rows − 1) / 2 + 4 × rows 16-bit cells".
use Rattle.std.specs.Prelude.{Bool, cond, List, [], ◌++◌, ℕ, zero, suc, ◌+◌, ◌*◌, ltb, get_or, take, drop}
use Rattle.tables.specs.Lists.{tabulate}
use Rattle.tables.specs.Table.{Table}
use Rattle.scratch.specs.Scratch.{workable_in}

-- 0 + 1 + .. + (i - 1): the first cell of row i in the triangle of pairs, where row i has a cell for each lower row.
unfoldable pub triangle : ℕ → ℕ
triangle zero = 0
triangle (suc i) = triangle i + i

-- The same from a table of row starts; of a row that the table does not have, as in the triangle.
unfoldable pub start_in : List ℕ → ℕ → ℕ
start_in starts i = get_or starts i (triangle i)

-- The cell of two rows, each row's first cell being `from` of it; 0 where they are one.
unfoldable pub pair_from : (ℕ → ℕ) → List ℕ → ℕ → ℕ → ℕ
pair_from from s q p = cond (ltb p q) (get_or s (from q + p) 0) (cond (ltb q p) (get_or s (from p + q) 0) 0)

-- The same in the triangle.
abbrev pub pair_at : List ℕ → ℕ → ℕ → ℕ
pair_at = pair_from triangle

-- The triangle of n rows with f of each row and each lower one.
unfoldable pub pairs : (ℕ → ℕ → ℕ) → ℕ → List ℕ
pairs f zero = []
pairs f (suc n) = pairs f n ++ tabulate n (f n)

-- Behind the pairs stand three cells for each row: its lead, a place in the queue, and the row into which it folds; a fourth is spare.
abbrev pub leads_at : ℕ → ℕ
leads_at n = triangle n

abbrev pub queue_start : ℕ → ℕ
queue_start n = triangle n + n

abbrev pub folds_start : ℕ → ℕ
folds_start n = triangle n + 2 * n

-- What stands there in scratch s of n rows: the lead of row q, the first m rows of the queue.
abbrev pub lead_at : List ℕ → ℕ → ℕ → ℕ
lead_at s n q = get_or s (leads_at n + q) 0

abbrev pub queued : List ℕ → ℕ → ℕ → List ℕ
queued s n m = take m (drop (queue_start n) s)

-- How many cells all that takes: n * (n - 1) / 2 + 4 * n, as proved in proofs/Triangle.antt.
abbrev pub needed : ℕ → ℕ
needed n = triangle n + 4 * n

-- A table that breaks none of the rules 1 to 6, and room for those cells.
abbrev pub workable : Table → ℕ → Bool
workable = workable_in needed
