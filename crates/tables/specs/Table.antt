-- "The parts and what they hold": a table as it is stored, and the machine that it describes.
use Rattle.std.specs.Prelude.{◌≡◌, List, [], ◌∷◌, ℕ, ◌+◌, ◌*◌, ◌/◌, ◌%◌, ◌^◌, ◌≤◌, ◌<◌, length, get_or, take, drop}
use Rattle.automata.specs.Runs.{Events, Machine, AgreeFrom}
use Rattle.tables.specs.Lists.{tabulate}

-- An offset: a number from 0 to 65,535, or none.
pub data Offset : Type 0 where
  offset : ℕ → Offset
  none : Offset

-- A table as it is stored.
pub record Table : Type 0 where
  pub rows : ℕ
  pub events : ℕ
  pub start : ℕ
  -- The targets, row by row.
  pub cells : List ℕ
  -- The packed marks.
  pub marks : List ℕ

-- How many bytes hold the marks of n rows: rows / 8, rounded up.
abbrev pub mark_byte_count : ℕ → ℕ
mark_byte_count n = (n + 7) / 8

-- The mark of row r, 1 for ready and 0 for wait: the bit worth 2^(r mod 8) in byte r div 8.
abbrev pub mark_of : List ℕ → ℕ → ℕ
mark_of marks r = get_or marks (r / 8) 0 / 2 ^ (r % 8) % 2

-- The number whose digits in base b are the list's, the first worth 1.
unfoldable pub digits : ℕ → List ℕ → ℕ
digits b [] = 0
digits b (x ∷ l) = x + b * digits b l

-- The bytes of a list of marks, 8 marks a byte; spare bits are 0.
unfoldable pub pack : List ℕ → List ℕ
pack l = tabulate (mark_byte_count (length l)) (λ i. digits 2 (take 8 (drop (8 * i) l)))

-- The target of row q and event a.
abbrev pub target_of : Table → ℕ → ℕ → ℕ
target_of T q a = get_or T.cells (q * T.events + a) 0

-- What the stored table says.
abbrev pub machine : Table → Machine
machine T = record { rows = T.rows; start = T.start; target = target_of T; mark = mark_of T.marks }

-- The events of a table, with the weight of each.
abbrev pub events_of : (ℕ → ℕ) → Table → Events
events_of weight T = record { count = T.events; weight = weight }

-- "A 32-bit mask now says which events count, bit e for event e": what an event adds to the length of a run. An event is below 32.
abbrev pub weight_by : ℕ → ℕ → ℕ
weight_by mask a = mask / 2 ^ (a % 32) % 2

-- A table that breaks none of the rules 1 to 6.
pub record Valid (T : Table) : Type 0 where
  -- Rule 1.
  pub some_row : 1 ≤ T.rows
  pub rows_fit : T.rows ≤ 1024
  -- Rule 2.
  pub some_event : 1 ≤ T.events
  pub events_fit : T.events ≤ 32
  -- Rule 3.
  pub all_cells : length T.cells ≡ T.rows * T.events
  pub all_marks : length T.marks ≡ mark_byte_count T.rows
  -- Rule 4.
  pub start_inside : T.start < T.rows
  -- Rule 5.
  pub cells_in : (i : ℕ) → i < length T.cells → get_or T.cells i 0 < T.rows
  -- Rule 6.
  pub spare_clear : (r : ℕ) → T.rows ≤ r → mark_of T.marks r ≡ 0
  -- The mark bytes are bytes.
  pub bytes : (i : ℕ) → get_or T.marks i 0 < 256

-- Demand 2, of the given table T and another U over the same events: they agree after every run of the offset's length or more;
-- with no offset, there is some length such that they agree after every run of that length or more. A length is that of the counted events.
abbrev pub Agrees : (ℕ → ℕ) → Offset → Table → Table → Type 0
Agrees weight (offset k) T U = AgreeFrom (events_of weight T) k (machine T) (machine U)
Agrees weight none T U = (L : ℕ) × AgreeFrom (events_of weight T) L (machine T) (machine U)

-- Demand 3: every table over the same events that agrees so with T has at least as many rows as U.
abbrev pub Fewest : (ℕ → ℕ) → Offset → Table → Table → Type 0
Fewest weight k T U = (N : Table) → Valid N → N.events ≡ T.events → Agrees weight k T N → U.rows ≤ N.rows
