-- The leads in region 0 of the lent scratch of 12 regions of n cells: what the steps of the search keep, and what they bring about.
-- While it goes on, region 4 counts the events that lead to a row and were not gone through, region 6 marks rows, 5 and 7 are lists of rows.
use Rattle.std.specs.Prelude.{◌≡◌, List, ℕ, ◌+◌, ◌*◌, ◌≤◌, ◌<◌, length, get_or}
use Rattle.tables.specs.Lengths.{lead}
use Rattle.tables.specs.Table.{Table, machine, events_of, weight_by}
use Rattle.rules.specs.Rules.{table_of}
use Rattle.scratch.specs.Scratch.{lead_in, len_cell}
use Rattle.depths.specs.Steps.{Started, Grown}

abbrev pub left_at : ℕ → List ℕ → ℕ → ℕ
left_at n s q = get_or s (4 * n + q) 0

abbrev pub seen_at : ℕ → List ℕ → ℕ → ℕ
seen_at n s q = get_or s (6 * n + q) 0

-- A table whose targets can be looked up.
pub record Given (n m : ℕ) (cells : List ℕ) : Type 0 where
  pub some : 0 < n
  pub few : n ≤ 1024
  pub events : m ≤ 32
  pub long : n * m ≤ length cells
  pub target_inside : (q a : ℕ) → q < n → a < m → get_or cells (q * m + a) 0 < n

-- And room for all regions.
pub record Space (n m : ℕ) (cells s : List ℕ) : Type 0 where
  pub given : Given n m cells
  pub room : 12 * n ≤ length s

-- From s to t nothing but leads and the regions 4 to 7 has changed.
pub record Kept (n : ℕ) (s t : List ℕ) : Type 0 where
  pub size : length t ≡ length s
  pub spare : (k : ℕ) → n ≤ k → k < 4 * n → get_or t k 0 ≡ get_or s k 0
  pub behind : (k : ℕ) → 8 * n ≤ k → get_or t k 0 ≡ get_or s k 0

-- Nothing but the regions 4 to 7 has changed.
pub record Marked (n : ℕ) (s t : List ℕ) : Type 0 where
  pub size : length t ≡ length s
  pub before : (k : ℕ) → k < 4 * n → get_or t k 0 ≡ get_or s k 0
  pub behind : (k : ℕ) → 8 * n ≤ k → get_or t k 0 ≡ get_or s k 0

-- Nothing but leads and these regions has changed, the leads still are known, and reached rows still have one: for every start and marks, since the steps look at neither.
pub record Grows (mask n m : ℕ) (cells s t : List ℕ) : Type 0 where
  pub kept : Kept n s t
  pub grown : (start : ℕ) (marks : List ℕ) → Grown mask (table_of n m start cells marks) s t

-- Before the first event nothing else has changed either, and only the start has a lead.
pub record Begun (n start : ℕ) (s t : List ℕ) : Type 0 where
  pub kept : Kept n s t
  pub started : Started n start t

-- Region 0 has the leads of the rows, the regions 4 to 7 are empty, and nothing else has changed.
pub record Found (mask : ℕ) (T : Table) (s t : List ℕ) : Type 0 where
  pub kept : Kept T.rows s t
  pub leads : (q : ℕ) → q < T.rows → lead_in t q ≡ len_cell (lead (events_of (weight_by mask) T) (machine T) q)
  pub empty : (k : ℕ) → 4 * T.rows ≤ k → k < 8 * T.rows → get_or t k 0 ≡ 0
