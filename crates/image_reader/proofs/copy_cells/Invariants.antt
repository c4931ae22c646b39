use mathlib.Core.Path.{◌≡◌}
use lib.ListN.{take}
use Rattle.tables.specs.Lists.{over}
use Rattle.images.specs.Image.{cells_at}
use Rattle.image_reader.proofs.copy_cells.Given as goal

abbrev pub invariant-loop-i : goal.invariant-loop-i
invariant-loop-i l = l.cells ≡ over l.initial.cells 0 (take l.i (cells_at l.form l.image l.events l.at l.count))
