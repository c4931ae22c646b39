-- What the reducer promises.
use Rattle.std.specs.Prelude.{◌≡◌, List, ℕ, ◌*◌, take, replicate, Result, Ok}
use Rattle.automata.specs.Runs.{AgreeFrom}
use Rattle.tables.specs.Table.{Table, Offset, offset, none, Valid, mark_byte_count, machine, events_of, weight_by, Fewest}
use Rattle.tables.specs.Reduction.{reduced}
use Rattle.rules.specs.Rules.{Verdict, table_of, left_by}
use Rattle.rules.specs.declared.Refusal.{Refusal}
use Rattle.reduction_rules.specs.Checks.{answer_by}

-- From which length on the reduced table agrees: the offset; with none, twice the given rows.
abbrev pub from : Offset → Table → ℕ
from (offset k) T = k
from none T = 2 * T.rows

-- The table that stands in the lent buffers: so many rows, the first cells and mark bytes, start 0.
abbrev pub written : ℕ → ℕ → List ℕ → List ℕ → Table
written rows events cells marks = table_of rows events 0 (take (rows * events) cells) (take (mark_byte_count rows) marks)

-- What a call promises, given how much scratch it needs, which events count, what the buffers hold before and after, and its answer.
pub record Promise (need : ℕ → ℕ) (v : Verdict) (k : Offset) (mask : ℕ) (T : Table) (cells marks scratch : List ℕ) (r : Result ℕ Refusal) (cells' marks' scratch' : List ℕ) : Type 0 where
  -- Demand 1: the first rule broken gives the answer, and then every buffer is unchanged.
  pub answers : r ≡ answer_by v (reduced (weight_by mask) k T).rows
  pub cells_after : cells' ≡ left_by v cells (reduced (weight_by mask) k T).cells
  pub marks_after : marks' ≡ left_by v marks (reduced (weight_by mask) k T).marks
  pub scratch_after : scratch' ≡ left_by v scratch (replicate (need T.rows) 0)
  -- Demand 2: the table that was written agrees with the given one after every run of so many counted events as the offset says, or more.
  pub demand_2 : (n : ℕ) → r ≡ Ok n → AgreeFrom (events_of (weight_by mask) T) (from k T) (machine T) (machine (written n T.events cells' marks'))
  -- Demand 3: every table over the same events, of which the same count, that agrees so has at least as many rows.
  pub demand_3 : (n : ℕ) → r ≡ Ok n → Fewest (weight_by mask) k T (written n T.events cells' marks')
  -- It is itself one of those tables: it breaks no rule, and is over the same events.
  pub one_of_those : (n : ℕ) → r ≡ Ok n → let U = written n T.events cells' marks' in Valid U × (U.events ≡ T.events)
