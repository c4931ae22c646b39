-- Rows to which runs of every size lead: rounds that keep only rows that are seen from kept ones by a counted event and idle ones.
use Rattle.std.specs.Prelude.{◌≡◌, Bool, false, List, ◌⊎◌, ℕ, ◌+◌, ◌*◌, ◌≤◌, ◌<◌, length, get_or, set}
use Rattle.automata.proofs.Runs.{Way}
use Rattle.tables.specs.Table.{Table, machine, events_of, weight_by}
use Rattle.rules.specs.Rules.{table_of}
use Rattle.scratch.specs.Scratch.{lead_in}
use Rattle.quick_depths.specs.Leads.{left_at, seen_at, Marked}

-- Room for all regions.
pub record Wide (n : ℕ) (s : List ℕ) : Type 0 where
  pub some : 0 < n
  pub few : n ≤ 1024
  pub room : 12 * n ≤ length s

-- Only the regions 6 and 7 have changed, and what P says of a row holds of each row that is seen now and was not.
pub record Seen (n : ℕ) (P : ℕ → Type 0) (s t : List ℕ) : Type 0 where
  pub size : length t ≡ length s
  pub before : (k : ℕ) → k < 6 * n → get_or t k 0 ≡ get_or s k 0
  pub behind : (k : ℕ) → 8 * n ≤ k → get_or t k 0 ≡ get_or s k 0
  pub new : (q : ℕ) → q < n → 0 < seen_at n t q → (0 < seen_at n s q) ⊎ P q

-- An event of weight w leads from row p to row q.
pub record ByEvent (mask m : ℕ) (cells : List ℕ) (p w q : ℕ) : Type 0 where
  pub event : ℕ
  pub inside : event < m
  pub weighs : weight_by mask event ≡ w
  pub there : q ≡ get_or cells (p * m + event) 0

-- A run that counts leads to row q from a row that is left.
pub record From (mask : ℕ) (T : Table) (s : List ℕ) (q : ℕ) : Type 0 where
  pub row : ℕ
  pub inside : row < T.rows
  pub left : 0 < left_at T.rows s row
  pub way : Way (events_of (weight_by mask) T) (machine T) row q 1

-- Such runs lead to all rows that are seen.
abbrev pub Seeing : ℕ → Table → List ℕ → Type 0
Seeing mask T s = (q : ℕ) → q < T.rows → 0 < seen_at T.rows s q → From mask T s q

pub record Spread (mask n m : ℕ) (cells s t : List ℕ) : Type 0 where
  pub size : length t ≡ length s
  pub before : (k : ℕ) → k < 6 * n → get_or t k 0 ≡ get_or s k 0
  pub behind : (k : ℕ) → 8 * n ≤ k → get_or t k 0 ≡ get_or s k 0
  pub seeing : (start : ℕ) (marks : List ℕ) → Seeing mask (table_of n m start cells marks) s → Seeing mask (table_of n m start cells marks) t

-- If row q is left, it is seen and reached.
abbrev pub Fine : ℕ → List ℕ → ℕ → Type 0
Fine n s q = 0 < left_at n s q → (0 < seen_at n s q) × (0 < lead_in s q)

-- Rows were dropped, or nothing has changed and so Rest holds.
pub record Dropped (n : ℕ) (s t : List ℕ) (dropped : Bool) (Rest : Type 0) : Type 0 where
  pub marked : Marked n s t
  pub same : dropped ≡ false → t ≡ s
  pub rest : dropped ≡ false → Rest

-- Every row that is left is reached, and such a run leads to it.
abbrev pub Whole : ℕ → ℕ → ℕ → List ℕ → List ℕ → Type 0
Whole mask n m cells s = (start : ℕ) (marks : List ℕ) (q : ℕ) → q < n → 0 < left_at n s q → (0 < lead_in s q) × From mask (table_of n m start cells marks) s q

pub record Round (mask n m : ℕ) (cells s t : List ℕ) (dropped : Bool) : Type 0 where
  pub marked : Marked n s t
  pub whole : dropped ≡ false → Whole mask n m cells t

-- What becomes of row q: it is not left, or its lead is endless then.
pub data SetRow (n q : ℕ) (s t : List ℕ) : Type 0 where
  not_left : t ≡ s → SetRow n q s t
  set_it : (left_at n s q ≡ 0 → ⊥) → t ≡ set s q 65535 → SetRow n q s t
