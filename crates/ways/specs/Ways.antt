-- The scratch of the two ways through the reducer.
use Rattle.std.specs.Prelude.{ℕ}
use Rattle.scratch.specs.Scratch.{scratch_cells, few_cells}
use Rattle.ways.specs.declared.Way.{Way}
use Rattle.ways.specs.declared.Way.TheVariants.{First, Second}

-- How many cells each way needs for a table of so many rows.
abbrev pub need_of : Way → ℕ → ℕ
need_of First = scratch_cells
need_of Second = few_cells
