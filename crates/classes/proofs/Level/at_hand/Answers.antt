use mathlib.Core.Bool.{true≢false}
use Rattle.classes.proofs.Reading.{all-below}
use Rattle.classes.proofs.Level.at_hand.Goals as goal

pub returns-then-below-3 : goal.returns-then-below-3
returns-then-below-3 c = let a = c.args in
    let v = a.self.now in
    record {
      holds = λ t. all-below v.n v.m v.to v.cells.now a.scratch.now c.requires.inside (c.below.ensures c.if-below.true) (c.below-then-below.ensures c.if-below-2.true) (c.below-then-below-2.ensures c.if-below-3.true);
      fails = λ t. absurd (true≢false t);
    }
