use Rattle.text.specs.Text.{joined, Puts}
use Rattle.printing.specs.Lines.{spaced}
use Rattle.printing.proofs.put_line.Given as goal

abbrev pub invariant-loop-number : goal.invariant-loop-number
invariant-loop-number l = Puts l.initial.out l.initial.next (joined l.number-index (spaced l.numbers)) l.out l.next
