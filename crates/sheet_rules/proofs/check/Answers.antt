use Rattle.std.proofs.lemmas.Result.{err_from_is_err_and}
use Rattle.rules.specs.Rules.{lent}
use Rattle.sheet_rules.proofs.Room.{verdict-refused, verdict-room}
use Rattle.sheet_rules.proofs.check.Goals as goal

pub returns-in_err-check_masked : goal.returns-in_err-check_masked
returns-in_err-check_masked c = let a = c.args in
    let p = err_from_is_err_and c.from_residual.result c.from_residual.ensures.1 in
    rw (p.1, p.2) (verdict-refused a.mask (lent a.table) a.list a.scratch c.winch.ensures c.check_masked.ensures _ c.in_err-check_masked.was)

pub returns : goal.returns
returns c = let a = c.args in
    verdict-room a.mask (lent a.table) a.list a.scratch c.winch.ensures c.check_masked.ensures c.in_ok-check_masked.was c.check_room.ensures
