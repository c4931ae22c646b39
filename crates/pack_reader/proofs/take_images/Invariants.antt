use Rattle.pack_reader.proofs.Taking.{Taking}
use Rattle.pack_reader.proofs.take_images.Given as goal

abbrev pub invariant-loop-i : goal.invariant-loop-i
invariant-loop-i l = Taking l.pack l.count l.initial.list l.initial.cells l.initial.marks l.i l.at l.c l.m l.list l.cells l.marks
