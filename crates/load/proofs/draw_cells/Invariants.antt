use mathlib.Core.Path.{◌≡◌}
use lib.ListN.{take}
use Rattle.tables.specs.Lists.{over}
use Rattle.xorshift.specs.Xorshift.{state}
use Rattle.load.specs.Load.{load_cells}
use Rattle.load.proofs.draw_cells.Given as goal

abbrev pub invariant-loop-c : goal.invariant-loop-c
invariant-loop-c l = (l.state ≡ state l.seed l.c) × (l.cells ≡ over l.initial.cells 0 (take l.c (load_cells l.seed l.rows l.events)))
