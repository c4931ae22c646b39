-- One 16-bit cell for the distance of two rows and how their chosen run begins, as one mixed number.
use Rattle.std.specs.Prelude.{cond, ℕ, ◌+◌, ◌-◌, ◌*◌, ◌/◌, ◌%◌, eqb, ltb}
use Rattle.automata.specs.Runs.{Events, Machine, Len, len, endless}
use Rattle.tables.specs.Lengths.{distance}
use Rattle.chosen.specs.declared.First.{First}
use Rattle.chosen.specs.declared.First.TheVariants.{Unsettled, End, Event}
use Rattle.chosen.specs.Choice.{chosen, head_or}
use Rattle.scratch.specs.Scratch.{len_cell}
use Rattle.measures.specs.declared.Measure.{Measure}

-- A settled pair: the number of its run's first event, 32 for the end, mixed with the distance d.
unfoldable pub settled_at : ℕ → ℕ → ℕ
settled_at d e = 33 * (d + 31) + e

-- The cell of a pair: 65,535 if its distance is endless; the distance alone, below 1,024, while nothing is known of the run; else both, from 1,056 on.
unfoldable pub cell_of : Len → First → ℕ
cell_of endless f = 65535
cell_of (len d) Unsettled = d
cell_of (len d) End = settled_at d 32
cell_of (len d) (Event a) = settled_at d a

-- How a run begins, from its number.
unfoldable pub begin_in : ℕ → First
begin_in e = cond (eqb e 32) End (Event e)

-- A distance, and how the run begins.
abbrev pub saying : ℕ → First → Measure
saying x f = record { distance = x; first = f }

-- What a cell says.
unfoldable pub measure_in : ℕ → Measure
measure_in x = cond (ltb x 1056) (saying x Unsettled) (cond (eqb x 65535) (saying x Unsettled) (saying (x / 33 - 31) (begin_in (x % 33))))

-- What is to be said of rows q and p of M: their distance, and how their chosen run begins.
abbrev pub measure_of : Events → Machine → ℕ → ℕ → Measure
measure_of E M q p = saying (len_cell (distance E M q p)) (head_or (chosen E M q p))

-- Their cell.
abbrev pub cell_for : Events → Machine → ℕ → ℕ → ℕ
cell_for E M q p = cell_of (distance E M q p) (head_or (chosen E M q p))
