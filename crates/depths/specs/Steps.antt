-- What the steps of the search keep, and what they bring about. They work in a scratch that begins with the leads.
use Rattle.std.specs.Prelude.{◌≡◌, Bool, true, false, cond, List, [], ◌∷◌, ◌⊎◌, ℕ, ◌+◌, ◌-◌, ◌*◌, ◌≤◌, ◌<◌, min, ltb, length, get_or, set}
use Rattle.automata.specs.Runs.{Events, Machine}
use Rattle.automata.proofs.Runs.{Reach}
use Rattle.tables.specs.Lists.{over}
use Rattle.tables.specs.Table.{Table, machine, events_of, target_of, weight_by}
use Rattle.rules.specs.Rules.{table_of}
use Rattle.scratch.specs.Scratch.{lead_in}
use Rattle.depths.specs.Depths.{lead_cells}

-- The lead of a row to which an event of weight w leads from a row of lead c. Above the number of rows it is endless.
unfoldable pub further : ℕ → ℕ → ℕ → ℕ
further n c w = cond (ltb n (c + w)) 65535 (c + w)

-- Every target is a row, and scratch has room for the lead of each row.
pub record Workspace (rows events : ℕ) (cells s : List ℕ) : Type 0 where
  pub rows_fit : rows ≤ 1024
  pub target_inside : (q a : ℕ) → q < rows → a < events → get_or cells (q * events + a) 0 < rows
  pub room : rows ≤ length s

-- Where a lead is not 0, a run to the row stands for it, as long as there are rows where it is endless.
pub record Known (E : Events) (M : Machine) (s : List ℕ) : Type 0 where
  pub start_inside : M.start < M.rows
  pub small : (q : ℕ) → q < M.rows → (lead_in s q ≤ M.rows) ⊎ (lead_in s q ≡ 65535)
  pub run : (q : ℕ) → q < M.rows → 0 < lead_in s q → Reach E M q (min (lead_in s q - 1) M.rows)
  pub begun : 0 < lead_in s M.start

-- Before the first event only the start has a lead, by the empty run.
pub record Started (n start : ℕ) (s : List ℕ) : Type 0 where
  pub here : lead_in s start ≡ 1
  pub other : (q : ℕ) → q < n → ¬ (q ≡ start) → lead_in s q ≡ 0

-- From s to s' the leads still are known, and reached rows still have one.
pub record Grown (mask : ℕ) (T : Table) (s s' : List ℕ) : Type 0 where
  pub known : Known (events_of (weight_by mask) T) (machine T) s → Known (events_of (weight_by mask) T) (machine T) s'
  pub stays : (q : ℕ) → q < T.rows → 0 < lead_in s q → 0 < lead_in s' q

-- How far the cells may still rise.
unfoldable pub below : List ℕ → ℕ
below [] = 0
below (x ∷ s) = (65535 - x) + below s

-- From s to s' a cell has risen, or nothing has changed.
pub record Risen (s s' : List ℕ) (changed : Bool) : Type 0 where
  pub same_length : length s' ≡ length s
  pub rose : changed ≡ true → below s' < below s
  pub kept : changed ≡ false → s' ≡ s

-- The cell at a place was raised to x, or is not lower, or there is none.
pub record Raised (at x : ℕ) (s s' : List ℕ) (changed : Bool) : Type 0 where
  pub low : changed ≡ true → (at < length s) × (get_or s at 0 < x) × (s' ≡ set s at x)
  pub high : changed ≡ false → (at < length s → x ≤ get_or s at 0) × (s' ≡ s)

-- Nothing but leads has changed, they still are known, and where none has changed Rest holds.
pub record Moved (mask : ℕ) (T : Table) (s s' : List ℕ) (changed : Bool) (Rest : Type 0) : Type 0 where
  pub grown : Grown mask T s s'
  pub behind : (k : ℕ) → T.rows ≤ k → get_or s' k 0 ≡ get_or s k 0
  pub rest : changed ≡ false → Rest

-- Event a of row p raises no lead.
abbrev pub Quiet : ℕ → Table → List ℕ → ℕ → ℕ → Type 0
Quiet mask T s p a = 0 < lead_in s p → further T.rows (lead_in s p) (weight_by mask a) ≤ lead_in s (target_of T p a)

abbrev pub QuietRow : ℕ → Table → List ℕ → ℕ → Type 0
QuietRow mask T s p = (a : ℕ) → a < T.events → Quiet mask T s p a

abbrev pub QuietRows : ℕ → Table → List ℕ → Type 0
QuietRows mask T s = (p : ℕ) → p < T.rows → QuietRow mask T s p

-- The same of every start and marks: the steps look at neither.
abbrev pub Stepped : ℕ → ℕ → ℕ → List ℕ → List ℕ → List ℕ → Bool → (Table → Type 0) → Type 0
Stepped mask rows events cells s s' changed Rest =
    (start : ℕ) (marks : List ℕ) → Moved mask (table_of rows events start cells marks) s s' changed (Rest (table_of rows events start cells marks))

-- From s to s', where no event raises a lead any more.
pub record Settled (mask rows events : ℕ) (cells s s' : List ℕ) : Type 0 where
  pub same_length : length s' ≡ length s
  pub grown : (start : ℕ) (marks : List ℕ) → Grown mask (table_of rows events start cells marks) s s'
  pub behind : (k : ℕ) → rows ≤ k → get_or s' k 0 ≡ get_or s k 0
  pub quiet : (start : ℕ) (marks : List ℕ) → QuietRows mask (table_of rows events start cells marks) s'

-- From s to s' the leads have been written in front, and nothing else.
abbrev pub Searched : ℕ → ℕ → ℕ → ℕ → List ℕ → List ℕ → List ℕ → Type 0
Searched mask rows events start cells s s' = (marks : List ℕ) → s' ≡ over s 0 (lead_cells (weight_by mask) (table_of rows events start cells marks))
