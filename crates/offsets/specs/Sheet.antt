-- What the sheet of all offsets promises.
use Rattle.std.specs.Prelude.{◌≡◌, List, ℕ, suc, ◌-◌, ◌≤◌, ◌<◌, get_or, replicate, Result, Ok, Err}
use Rattle.tables.specs.Lists.{tabulate}
use Rattle.tables.specs.Table.{Table, offset, none, Valid, Agrees, weight_by}
use Rattle.tables.specs.Reduction.{reduced}
use Rattle.rules.specs.Rules.{Verdict, left_by}
use Rattle.rules.specs.declared.Refusal.{Refusal}
use Rattle.scratch.specs.Scratch.{scratch_cells}
use Rattle.sheet_rules.specs.Checks.{entries}

-- "The least row count at every offset from 0 to 2 × rows": each is that of the offset's reduction.
unfoldable pub sheet : (ℕ → ℕ) → Table → List ℕ
sheet weight T = tabulate (entries T.rows) (λ k. (reduced weight (offset k) T).rows)

-- The answer: how many entries were written, or the refusal.
abbrev pub answer_by : Verdict → ℕ → Result ℕ Refusal
answer_by (Ok u) n = Ok n
answer_by (Err r) n = Err r

-- What a call promises, given which events count, what the lent list and the scratch hold before and after, and its answer.
pub record Promise (v : Verdict) (mask : ℕ) (T : Table) (list scratch : List ℕ) (r : Result ℕ Refusal) (list' scratch' : List ℕ) : Type 0 where
  -- Demand 1: the first rule broken gives the answer, and then list and scratch are unchanged.
  pub answers : r ≡ answer_by v (entries T.rows)
  pub list_after : list' ≡ left_by v list (sheet (weight_by mask) T)
  pub scratch_after : scratch' ≡ left_by v scratch (replicate (scratch_cells T.rows) 0)
  -- Each of the n entries is the row count of that offset's reduction;
  pub entry : (n : ℕ) → r ≡ Ok n → (k : ℕ) → k < n → get_or list' k 0 ≡ (reduced (weight_by mask) (offset k) T).rows
  -- "no entry exceeds the one before it";
  pub falls : (n : ℕ) → r ≡ Ok n → (k : ℕ) → suc k < n → get_or list' (suc k) 0 ≤ get_or list' k 0
  -- "the last is the count for no offset".
  pub last : (n : ℕ) → r ≡ Ok n → get_or list' (n - 1) 0 ≡ (reduced (weight_by mask) none T).rows
  -- Demand 3: every table over the same events, of which the same count, that agrees from offset k on has at least entry k rows.
  pub demand_3 : (n : ℕ) → r ≡ Ok n → (k : ℕ) → k < n → (N : Table) → Valid N → N.events ≡ T.events → Agrees (weight_by mask) (offset k) T N → get_or list' k 0 ≤ N.rows
