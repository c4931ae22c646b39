-- The rows in line while it grows, and what is read off it in the end. Four regions of n cells stand in front of the scratch: leads, the line, the rows into which rows fold, numbers.
use Rattle.std.specs.Prelude.{◌≡◌, cond, List, ℕ, suc, ◌+◌, ◌-◌, ◌*◌, ◌/◌, ◌%◌, ◌≤◌, ◌<◌, eqb, ltb, length, get_or, take, drop}
use Rattle.automata.proofs.Lists.{Mem, Pairwise}
use Rattle.tables.specs.Lists.{tabulate, some, place}
use Rattle.tables.specs.Table.{mark_of}
use Rattle.tables.proofs.Lists.{Apart}

-- The row into which row q of n folds; a cell that is no row stands for row 0.
abbrev pub fold_row : ℕ → List ℕ → ℕ → ℕ
fold_row n s q = cond (ltb (get_or s (2 * n + q) 0) n) (get_or s (2 * n + q) 0) 0

-- The first `count` rows in line.
abbrev pub line_in : ℕ → List ℕ → ℕ → List ℕ
line_in n s count = take count (drop n s)

-- The rows into which the targets of a row fold, by events, where there are n rows and m events.
abbrev pub next : List ℕ → List ℕ → ℕ → ℕ → ℕ → List ℕ
next cells s n m row = tabulate m (λ a. fold_row n s (get_or cells (row * m + a) 0))

-- The number of a row in line: one more than its place; 0 if it is not there.
abbrev pub number_of : List ℕ → ℕ → ℕ
number_of l x = cond (some (eqb x) l) (suc (place x l)) 0

-- The rows of l stand in line, none twice, and each of the n rows has its number.
pub record Lined (n : ℕ) (l s : List ℕ) : Type 0 where
  pub room : 4 * n ≤ length s
  pub apart : Pairwise (Apart eqb) l
  pub rows : (x : ℕ) → Mem x l → x < n
  pub line : (i : ℕ) → i < length l → get_or s (n + i) 0 ≡ get_or l i 0
  pub numbers : (x : ℕ) → x < n → get_or s (3 * n + x) 0 ≡ number_of l x

-- Nothing but the first `count` rows in line and the numbers has changed.
pub record Frame (n count : ℕ) (s t : List ℕ) : Type 0 where
  pub size : length t ≡ length s
  pub leads : (k : ℕ) → k < n → get_or t k 0 ≡ get_or s k 0
  pub rest : (k : ℕ) → n + count ≤ k → k < 3 * n → get_or t k 0 ≡ get_or s k 0
  pub behind : (k : ℕ) → 4 * n ≤ k → get_or t k 0 ≡ get_or s k 0

-- A table's cells: n rows of m targets, each a row.
pub record Targets (n m : ℕ) (cells : List ℕ) : Type 0 where
  pub some_row : 0 < n
  pub rows_fit : n ≤ 1024
  pub some_event : 0 < m
  pub events_fit : m ≤ 32
  pub all_cells : n * m ≤ length cells
  pub inside : (i : ℕ) → get_or cells i 0 < n

-- Target c of the new table, row by row: the new number of the row into which the given target folds.
abbrev pub target_of_new : List ℕ → ℕ → ℕ → List ℕ → ℕ → ℕ
target_of_new cells n m s c = get_or s (3 * n + fold_row n s (get_or cells (get_or s (n + c / m) 0 * m + c % m) 0)) 0 - 1

-- The mark of new row i: that of the given row in line; none beyond the line.
abbrev pub mark_of_new : List ℕ → ℕ → List ℕ → ℕ → ℕ → ℕ
mark_of_new marks n s count i = cond (ltb i count) (mark_of marks (get_or s (n + i) 0)) 0
