use Rattle.std.proofs.lemmas.Result.{err_from_is_err_and}
use Rattle.rules.specs.Rules.{lent}
use Rattle.order_rules.proofs.Judged.{first-refused, first_fine}
use Rattle.order_rules.proofs.check.Goals as goal

pub returns-in_err-check_table : goal.returns-in_err-check_table
returns-in_err-check_table c = let a = c.args in
    let p = err_from_is_err_and c.from_residual.result c.from_residual.ensures.1 in
    rw (p.1, p.2) (first-refused (lent a.first) (lent a.second) a.room c.winch.ensures c.check_table.ensures _ c.in_err-check_table.was)

pub returns : goal.returns
returns c = let a = c.args in
    first_fine (lent a.first) (lent a.second) a.room c.winch.ensures c.check_table.ensures c.in_ok-check_table.was c.check_second.ensures
