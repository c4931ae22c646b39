use mathlib.Core.Path.{◌≡◌}
use lib.ListN.{take, drop}
use Rattle.tables.specs.Lists.{over}
use Rattle.image_reader.proofs.copy_marks.Given as goal

abbrev pub invariant-loop-i : goal.invariant-loop-i
invariant-loop-i l = l.marks ≡ over l.initial.marks 0 (take l.i (take l.count (drop l.at l.image)))
