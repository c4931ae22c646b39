use mathlib.Core.Path.{sym}
use native.Mathlib.Omega.{arith}
use borrow.Author.Tests.{le-leb}
use lib.Dec.{leb}
use lib.ListN.{get_or, length}
use Rattle.tables.proofs.Lists.{position_is}
use Rattle.rules.proofs.first_outside.Goals as goal

pub returns-then-rows-cell : goal.returns-then-rows-cell
returns-then-rows-cell c = let a = c.args in
    let l = c.loop-i in
    sym (position_is (leb a.rows) a.cells.now l.i 0 (omega arith) l.invariant (λ h. le-leb a.rows (get_or a.cells.now l.i 0) (omega arith)))

pub returns : goal.returns
returns c = let a = c.args in
    sym (position_is (leb a.rows) a.cells.now (length a.cells.now) 0 (omega arith) (λ j h. c.loop-i.invariant j (omega arith)) (λ h. absurd (omega arith)))
