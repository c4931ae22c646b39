use native.Mathlib.Omega.{arith}
use Rattle.std.proofs.Common.{rules}
use Rattle.marks.proofs.Marking.{marking_next, marking_all}
use Rattle.renumbering.specs.Line.{mark_of_new}
use Rattle.renumbering.proofs.Writing.{new_mark-none, new_mark-small}
use Rattle.renumbering.proofs.write_marks.Goals as goal

pub loop-i-preserved : goal.loop-i-preserved
loop-i-preserved c = let a = c.args in
    let l = c.loop-i in
    marking_next (mark_of_new a.marks.now a.n a.scratch.now a.count) (new_mark-small a.marks.now a.scratch.now a.n a.count) a.out.now l.out l.i l.invariant (omega arith) c.new_mark.result c.new_mark.ensures c.put_mark.new.marks c.put_mark.ensures

pub returns : goal.returns
returns c = let a = c.args in
    let l = c.loop-i in
    marking_all (mark_of_new a.marks.now a.n a.scratch.now a.count) (new_mark-small a.marks.now a.scratch.now a.n a.count) a.count (new_mark-none a.marks.now a.scratch.now a.n a.count) a.out.now l.out l.i l.invariant (λ j. search rules) c.requires.3 (omega arith)
