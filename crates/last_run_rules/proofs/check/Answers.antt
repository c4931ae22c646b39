use native.Mathlib.Omega.{arith}
use Rattle.std.proofs.lemmas.Result.{err_from_is_err_and}
use Rattle.rules.specs.Rules.{lent}
use Rattle.last_run_rules.proofs.Order.{shape_refused, no_row, then-all}
use Rattle.last_run_rules.proofs.check.Goals as goal

pub returns-in_err-check_shape : goal.returns-in_err-check_shape
returns-in_err-check_shape c = let a = c.args in
    let p = err_from_is_err_and c.from_residual.result c.from_residual.ensures.1 in
    rw (p.1, p.2) (shape_refused a.mask (lent a.table) a.row a.room c.winch.ensures c.check_shape.ensures _ c.in_err-check_shape.was)

pub returns-then-table-row : goal.returns-then-table-row
returns-then-table-row c = let a = c.args in
    rw c.at.ensures (no_row a.mask (lent a.table) a.row a.room c.winch.ensures c.check_shape.ensures c.in_ok-check_shape.was c.if-table-row.true)

pub returns : goal.returns
returns c = let a = c.args in
    then-all a.mask (lent a.table) a.row a.room c.winch.ensures c.check_shape.ensures c.in_ok-check_shape.was (omega (arith, c.if-table-row.false)) c.check_all.ensures
