use Rattle.std.proofs.lemmas.Result.{err_from_is_err_and}
use Rattle.rules.specs.Rules.{lent}
use Rattle.ways.specs.Ways.{need_of}
use Rattle.reduction_rules.proofs.Room.{verdict-refused, verdict-room}
use Rattle.reduction_rules.proofs.check.Goals as goal

pub returns-in_err-check_masked : goal.returns-in_err-check_masked
returns-in_err-check_masked c = let a = c.args in
    let p = err_from_is_err_and c.from_residual.result c.from_residual.ensures.1 in
    rw (p.1, p.2) (verdict-refused (need_of a.way) a.mask (lent a.table) a.cellroom a.markroom a.recordroom a.room c.winch.ensures c.check_masked.ensures _ c.in_err-check_masked.was)

pub returns : goal.returns
returns c = let a = c.args in
    verdict-room (need_of a.way) a.mask (lent a.table) a.cellroom a.markroom a.recordroom a.room c.winch.ensures c.check_masked.ensures c.in_ok-check_masked.was c.check_room.ensures
