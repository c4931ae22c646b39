use Rattle.marks.proofs.Marking.{Marking}
use Rattle.renumbering.specs.Line.{mark_of_new}
use Rattle.renumbering.proofs.Writing.{new_mark-small}
use Rattle.renumbering.proofs.write_marks.Given as goal

abbrev pub invariant-loop-i : goal.invariant-loop-i
invariant-loop-i l = Marking (mark_of_new l.marks l.n l.scratch l.count) (new_mark-small l.marks l.scratch l.n l.count) l.initial.out l.out l.i
