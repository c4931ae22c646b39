use Rattle.text.specs.Text.{joined, Puts}
use Rattle.printing.specs.Lines.{spaced}
use Rattle.printing.proofs.put_cells.Given as goal

abbrev pub invariant-loop-cell : goal.invariant-loop-cell
invariant-loop-cell l = Puts l.initial.out l.initial.next (joined l.cell-index (spaced l.cells)) l.out l.next
