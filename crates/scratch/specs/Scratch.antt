-- The lent scratch: how many cells a call is lent, how lengths stand in them, and when a table can be worked on.
use Rattle.std.specs.Prelude.{Bool, true, false, cond, List, ℕ, ◌+◌, ◌-◌, ◌*◌, ◌/◌, leb, ltb, length, get_or, replicate, Ok, Err}
use Rattle.automata.specs.Runs.{Machine, Len, len, endless}
use Rattle.tables.specs.Lists.{over}
use Rattle.tables.specs.Table.{Table, machine}
use Rattle.rules.specs.Rules.{Verdict, table_of, judged, winch, table_checks}

-- The lead of row q in a scratch that begins with the leads.
abbrev pub lead_in : List ℕ → ℕ → ℕ
lead_in s q = get_or s q 0

-- "Scratch of rows × (rows − 1) / 2 + 4 × rows 16-bit cells."
abbrev pub scratch_cells : ℕ → ℕ
scratch_cells rows = rows * (rows - 1) / 2 + 4 * rows

-- "A second way through the reducer with 12 × rows scratch cells."
abbrev pub few_cells : ℕ → ℕ
few_cells rows = 12 * rows

-- A length in a cell: 65,535 is endless.
abbrev pub len_cell : Len → ℕ
len_cell (len L) = L
len_cell endless = 65535

-- s with 0 in the cells from one place up to another, where there are so many.
unfoldable pub cleared : List ℕ → ℕ → ℕ → List ℕ
cleared s from to = cond (ltb (length s) to) s (over s from (replicate (to - from) 0))

-- No rule is broken.
abbrev pub fine : Verdict → Bool
fine (Ok u) = true
fine (Err e) = false

-- A table that breaks none of the rules 1 to 6, and room for the cells that its rows need.
unfoldable pub workable_in : (ℕ → ℕ) → Table → ℕ → Bool
workable_in need T room = cond (fine (judged (table_checks winch T))) (leb (need T.rows) room) false

-- A table's machine, as the searches run it: they do not look at its start.
abbrev pub machine_by : ℕ → ℕ → List ℕ → List ℕ → Machine
machine_by rows events cells marks = machine (table_of rows events 0 cells marks)
