use Rattle.text.specs.Text.{joined, Puts}
use Rattle.loss_desk.specs.Lines.{line_at}
use Rattle.loss_desk.proofs.put_rows.Given as goal

abbrev pub invariant-loop-row : goal.invariant-loop-row
invariant-loop-row l = Puts l.initial.out 0 (joined l.row (line_at l.rows l.events l.cells l.scratch)) l.out l.next
