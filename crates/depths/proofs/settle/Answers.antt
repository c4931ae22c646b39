use Rattle.depths.proofs.Moves.{same_space, risen_less, settling_more, settled}
use Rattle.depths.proofs.settle.Goals as goal

pub loop-again-smaller : goal.loop-again-smaller
loop-again-smaller c = let v = c.sweep-again in
    risen_less c.loop-again.again v.result c.loop-again-test.true v.ensures.0

pub loop-again-preserved : goal.loop-again-preserved
loop-again-preserved c u = let l = c.loop-again in
    let v = c.sweep-again in
    settling_more (l.invariant u) v.ensures.0 (v.ensures.1 (same_space u l.auto.scratch))

pub returns : goal.returns
returns c u = let l = c.loop-again in
    settled c.loop-again-test.false l.auto.scratch (l.invariant u)
