use native.Mathlib.Omega.{arith}
use Rattle.pairs.proofs.Triangle.{triangle_bound}
use Rattle.losses.proofs.Telling.{into_self, into_fold}
use Rattle.losses.proofs.into.Goals as goal

pub returns-then-lead-eq0 : goal.returns-then-lead-eq0
returns-then-lead-eq0 c = let a = c.args in
    into_self a.rows a.scratch.now a.row c.lead.ensures c.if-lead-eq0.true

pub overflow_add-folds_at : goal.overflow_add-folds_at
overflow_add-folds_at c = let a = c.args in omega (arith, c.folds_at.ensures, triangle_bound a.rows (omega arith))

pub returns : goal.returns
returns c = let a = c.args in
    into_fold a.rows a.scratch.now a.row c.lead.ensures c.if-lead-eq0.false c.folds_at.ensures c.cell.ensures
