use mathlib.Core.Path.{sym, ◌∙◌}
use native.Mathlib.Omega.{arith}
use Rattle.std.proofs.lemmas.Result.{err_from_is_err_and}
use Rattle.rules.specs.Rules.{lent, offset_of}
use Rattle.last_run.proofs.Promised.{refused, ready, promised}
use Rattle.last_run.proofs.last_run.Goals as goal

pub returns-in_err-check : goal.returns-in_err-check
returns-in_err-check c = let a = c.args in
    let p = err_from_is_err_and c.from_residual.result c.from_residual.ensures.1 in
    rw (p.1, p.2) (refused (offset_of a.offset) a.mask (lent a.table) a.row a.run.now a.scratch.now _ (sym c.in_err-check.was ∙ c.check.ensures))

pub overflow_cast-n : goal.overflow_cast-n
overflow_cast-n c = let a = c.args in
    omega (arith, (ready (offset_of a.offset) a.mask (lent a.table) a.row a.run.now a.scratch.now (sym c.in_ok-check.was ∙ c.check.ensures) c.bytes.ensures.1).valid.rows_fit)

pub overflow_cast-events : goal.overflow_cast-events
overflow_cast-events c = let a = c.args in
    omega (arith, (ready (offset_of a.offset) a.mask (lent a.table) a.row a.run.now a.scratch.now (sym c.in_ok-check.was ∙ c.check.ensures) c.bytes.ensures.1).valid.events_fit)

pub overflow_cast-row : goal.overflow_cast-row
overflow_cast-row c = let a = c.args in
    let y = ready (offset_of a.offset) a.mask (lent a.table) a.row a.run.now a.scratch.now (sym c.in_ok-check.was ∙ c.check.ensures) c.bytes.ensures.1 in
    omega (arith, y.valid.rows_fit, y.row_in)

pub returns : goal.returns
returns c = let a = c.args in
    promised (offset_of a.offset) a.mask (lent a.table) a.row a.run.now a.scratch.now (sym c.in_ok-check.was ∙ c.check.ensures) c.bytes.ensures.1 c.fold_rows.ensures.1 c.tell-told.ensures c.needed.ensures c.clear.ensures
