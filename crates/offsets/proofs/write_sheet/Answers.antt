use native.Mathlib.Omega.{arith}
use Rattle.std.proofs.lemmas.Result.{err_from_is_err_and}
use Rattle.rules.specs.Rules.{lent}
use Rattle.offsets.proofs.Promised.{promised-refused, fine-rows, promised-fine}
use Rattle.offsets.proofs.write_sheet.Goals as goal

pub returns-in_err-check : goal.returns-in_err-check
returns-in_err-check c = let a = c.args in
    let p = err_from_is_err_and c.from_residual.result c.from_residual.ensures.1 in
    rw (p.1, p.2) (promised-refused a.mask (lent a.table) c.bytes.ensures.1 a.list.now a.scratch.now c.check.ensures _ c.in_err-check.was)

pub overflow_cast-n : goal.overflow_cast-n
overflow_cast-n c = let a = c.args in
    record { fits = omega (arith, fine-rows a.mask (lent a.table) c.bytes.ensures.1 a.list.now a.scratch.now c.check.ensures c.in_ok-check.was) }

pub returns : goal.returns
returns c = let a = c.args in
    let l = c.fill in
    promised-fine a.mask (lent a.table) c.bytes.ensures.1 a.list.now a.scratch.now c.check.ensures c.in_ok-check.was c.find_apart-from.ensures l.new.list l.ensures c.needed.ensures c.clear.ensures
