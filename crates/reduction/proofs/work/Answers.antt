use native.Mathlib.Omega.{arith}
use Rattle.std.proofs.lemmas.Result.{err_from_is_err_and}
use Rattle.rules.specs.Rules.{lent, offset_of}
use Rattle.reduction.proofs.Outcome.{fine-rows, work_refused, work-fine}
use Rattle.reduction.proofs.work.Goals as goal

pub returns-in_err-check : goal.returns-in_err-check
returns-in_err-check c = let a = c.args in
    let p = err_from_is_err_and c.from_residual.result c.from_residual.ensures.1 in
    rw (p.1, p.2) (work_refused a.way (offset_of a.offset) a.mask (lent a.table) c.bytes.ensures a.newcells.now a.newmarks.now a.scratch.now a.room c.check.ensures _ c.in_err-check.was)

pub overflow_cast-rows : goal.overflow_cast-rows
overflow_cast-rows c = let a = c.args in
    record { fits = omega (arith, fine-rows a.way (offset_of a.offset) a.mask (lent a.table) c.bytes.ensures a.newcells.now a.newmarks.now a.scratch.now a.room c.check.ensures c.in_ok-check.was) }

pub returns : goal.returns
returns c = let a = c.args in
    work-fine a.way (offset_of a.offset) a.mask (lent a.table) c.bytes.ensures a.newcells.now a.newmarks.now a.scratch.now a.room c.check.ensures c.in_ok-check.was c.rewrite-left.ensures c.needed-used.ensures
