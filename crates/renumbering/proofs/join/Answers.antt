use Rattle.renumbering.proofs.Lines.{join_in, join_out}
use Rattle.renumbering.proofs.join.Goals as goal

pub returns-then-scratch-n-ne0 : goal.returns-then-scratch-n-ne0
returns-then-scratch-n-ne0 c = let p = c.requires in
    join_in p.1 p.2 p.3 c.if-scratch-n-ne0.true

pub returns : goal.returns
returns c = let p = c.requires in
    join_out p.1 p.2 p.3 c.if-scratch-n-ne0.false
