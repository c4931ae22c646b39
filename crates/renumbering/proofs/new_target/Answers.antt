use lib.Arith.{digits_lt}
use native.Mathlib.Omega.{arith}
use Rattle.renumbering.proofs.Writing.{line_row}
use Rattle.renumbering.proofs.new_target.Goals as goal

pub bounds-cells-row : goal.bounds-cells-row
bounds-cells-row c = let p = c.requires in
    omega (arith, p.0.all_cells, digits_lt (line_row p.1 p.2 p.3) p.4)
