use native.Mathlib.Omega.{arith}
use Rattle.sheet_rules.proofs.Room.{short_scratch, short_list, all-fits}
use Rattle.sheet_rules.proofs.check_room.Goals as goal

pub returns-then-scratch-needed : goal.returns-then-scratch-needed
returns-then-scratch-needed c = let a = c.args in
    rw c.at.ensures (short_scratch a.rows a.list a.scratch (omega (arith, c.if-scratch-needed.true, c.needed.ensures)))

pub returns-then-list-rows : goal.returns-then-list-rows
returns-then-list-rows c = let a = c.args in
    rw c.at-then-list-rows.ensures (short_list a.rows a.list a.scratch (omega (arith, c.if-scratch-needed.false, c.needed.ensures)) c.if-list-rows.true)

pub returns : goal.returns
returns c = let a = c.args in all-fits a.rows a.list a.scratch (omega (arith, c.if-scratch-needed.false, c.needed.ensures)) c.if-list-rows.false
