use mathlib.Core.Path.{sym, ◌∙◌}
use Rattle.std.proofs.lemmas.Result.{err_from_is_err_and}
use Rattle.rules.specs.Rules.{lent}
use Rattle.order.proofs.Answers.{refused, sizes, over-same, answered}
use native.Mathlib.Omega.{arith}
use Rattle.order.proofs.compare.Goals as goal

pub returns-in_err-check : goal.returns-in_err-check
returns-in_err-check c = let a = c.args in
    let p = err_from_is_err_and c.from_residual.result c.from_residual.ensures.1 in
    rw (p.1, p.2) (refused (lent a.first) (lent a.second) a.scratch.now _ (sym c.in_err-check.was ∙ c.check.ensures))

pub overflow_cast-n : goal.overflow_cast-n
overflow_cast-n c = let a = c.args in
    omega (arith, (sizes (lent a.first) (lent a.second) a.scratch.now (sym c.in_ok-check.was ∙ c.check.ensures) c.bytes.ensures.1 c.bytes-2.ensures.1).0)

pub overflow_cast-m : goal.overflow_cast-m
overflow_cast-m c = let a = c.args in
    omega (arith, (sizes (lent a.first) (lent a.second) a.scratch.now (sym c.in_ok-check.was ∙ c.check.ensures) c.bytes.ensures.1 c.bytes-2.ensures.1).3)

pub overflow_cast-events : goal.overflow_cast-events
overflow_cast-events c = let a = c.args in
    omega (arith, (sizes (lent a.first) (lent a.second) a.scratch.now (sym c.in_ok-check.was ∙ c.check.ensures) c.bytes.ensures.1 c.bytes-2.ensures.1).1)

pub overflow_cast-start : goal.overflow_cast-start
overflow_cast-start c = let a = c.args in
    omega (arith, (sizes (lent a.first) (lent a.second) a.scratch.now (sym c.in_ok-check.was ∙ c.check.ensures) c.bytes.ensures.1 c.bytes-2.ensures.1).2)

pub overflow_cast-start2 : goal.overflow_cast-start2
overflow_cast-start2 c = let a = c.args in
    omega (arith, (sizes (lent a.first) (lent a.second) a.scratch.now (sym c.in_ok-check.was ∙ c.check.ensures) c.bytes.ensures.1 c.bytes-2.ensures.1).4)

pub search-order-requires : goal.search-order-requires
search-order-requires c = let a = c.args in
    over-same (lent a.first) (lent a.second) a.scratch.now (sym c.in_ok-check.was ∙ c.check.ensures) c.bytes.ensures.1 c.bytes-2.ensures.1

pub returns : goal.returns
returns c = let a = c.args in
    answered (lent a.first) (lent a.second) a.scratch.now (sym c.in_ok-check.was ∙ c.check.ensures) c.bytes.ensures.1 c.bytes-2.ensures.1 c.search-order.ensures c.needed.ensures c.clear.ensures
