-- What stands where between the work and the records.
use Rattle.std.specs.Prelude.{◌≡◌, true, List, ℕ, ◌+◌, ◌-◌, ◌*◌, ◌≤◌, ◌<◌, length, get_or, Result, Ok, Err}
use Rattle.automata.specs.Runs.{Events, Machine}
use Rattle.tables.specs.Table.{Table, Offset, machine, events_of, weight_by}
use Rattle.tables.specs.Lengths.{lead, reached}
use Rattle.tables.specs.Reduction.{fold, number, reduced}
use Rattle.rules.specs.Rules.{Verdict, sound}
use Rattle.rules.specs.declared.Refusal.{Refusal}
use Rattle.scratch.specs.Scratch.{len_cell, workable_in}
use Rattle.either_way.specs.Folding.{FoldedBy}
use Rattle.renumbering.specs.Renumber.{new_rows, new_cells, new_marks, NewScratch}
use Rattle.reduction.specs.declared.Done.{Done}

-- What the work answers: how many rows are left, records are to be written and scratch cells to be cleared, or the refusal.
abbrev pub work_by : (ℕ → ℕ) → Verdict → Offset → ℕ → Table → Result Done Refusal
work_by need (Ok u) k mask T = Ok (record { left = (reduced (weight_by mask) k T).rows; rows = T.rows; used = need T.rows })
work_by need (Err r) k mask T = Err r

-- The scratch says of each row its lead; if the row is reached, into which row it folds; and if that is the row itself, one more than its new number.
pub record Told (E : Events) (M : Machine) (k : Offset) (s : List ℕ) : Type 0 where
  pub leads : (q : ℕ) → q < M.rows → get_or s q 0 ≡ len_cell (lead E M q)
  pub folds : (q : ℕ) → q < M.rows → reached E M q ≡ true → get_or s (2 * M.rows + q) 0 ≡ fold E M k q
  pub numbers : (q : ℕ) → q < M.rows → reached E M q ≡ true → fold E M k q ≡ q → get_or s (3 * M.rows + q) 0 - 1 ≡ number E.count M (fold E M k) q

-- What the work leaves in scratch: on a refusal all as it was; else what it tells, and nothing has changed beyond the cells that it needs.
pub record Worked (need : ℕ → ℕ) (v : Verdict) (k : Offset) (mask : ℕ) (T : Table) (s t : List ℕ) : Type 0 where
  pub told : v ≡ sound → Told (events_of (weight_by mask) T) (machine T) k t
  pub size : length t ≡ length s
  pub beyond : (i : ℕ) → need T.rows ≤ i → get_or t i 0 ≡ get_or s i 0
  pub refused : (r : Refusal) → v ≡ Err r → t ≡ s

-- What folding and numbering leave: between them the scratch was such that rows had folded, if the table could be worked on.
pub record Rewritten (need : ℕ → ℕ) (k : Offset) (mask : ℕ) (T : Table) (cells marks scratch : List ℕ) (r : ℕ) (cells' marks' scratch' : List ℕ) : Type 0 where
  pub between : List ℕ
  pub folded : workable_in need T (length scratch) ≡ true → FoldedBy need mask k T scratch between
  pub rows_left : r ≡ new_rows T between cells marks
  pub numbered : NewScratch T between cells marks scratch'
  pub cells_written : cells' ≡ new_cells T between cells marks
  pub marks_written : marks' ≡ new_marks T between cells marks
