use native.Mathlib.Omega.{arith}
use Rattle.renumbering.proofs.Lines.{line_again}
use Rattle.renumbering.proofs.Meeting.{none-met, meets, all-met}
use Rattle.renumbering.proofs.meet.Goals as goal

pub loop-a-init : goal.loop-a-init
loop-a-init c = none-met _ c.requires.0 c.requires.1 c.requires.3

pub join-count-requires : goal.join-count-requires
join-count-requires c = let l = c.loop-a.invariant in
    (c.requires.0.rows_fit, l.few, c.fold_of-x.ensures.1, line_again _ _ _ l.lined _ l.many)

pub loop-a-preserved : goal.loop-a-preserved
loop-a-preserved c = let j = c.join-count.ensures in
    meets _ c.requires.0 c.requires.1 c.requires.3 c.loop-a.invariant c.loop-a-test.true c.fold_of-x.ensures.0 j.0 j.1 j.2

pub returns : goal.returns
returns c = all-met _ c.requires.0 c.requires.1 c.requires.3 (omega arith) c.loop-a.invariant
