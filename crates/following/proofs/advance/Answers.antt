use Rattle.rules.specs.Rules.{winch, shape_checks, lent}
use Rattle.rules.proofs.Judged.{judged-append}
use Rattle.following.specs.Moves.{cell_checks, advanced}
use Rattle.following.proofs.advance.Goals as goal

pub returns-in-Err : goal.returns-in-Err
unfolding advanced
returns-in-Err c = let a = c.args in
    let T = lent a.table in
    rw (c.refused.ensures, judged-append (shape_checks winch T) (cell_checks a.mask T a.row a.event), ← c.checked.ensures, c.in-Err.is)

pub returns-in-Ok : goal.returns-in-Ok
unfolding advanced
returns-in-Ok c = let a = c.args in
    let T = lent a.table in
    rw (c.advance_within.ensures, judged-append (shape_checks winch T) (cell_checks a.mask T a.row a.event), ← c.checked.ensures, c.in-Ok.is)
