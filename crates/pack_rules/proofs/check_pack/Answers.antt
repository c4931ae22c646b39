use mathlib.Core.Path.{sym, ◌∙◌}
use Prim.Native.Nat.{◌/◌}
use lib.ListN.{length}
use Rattle.std.proofs.lemmas.Result.{err_from_is_err_and}
use Rattle.rules.proofs.Checks.{inside}
use Rattle.pack_rules.proofs.Accepted.{pack-judged}
use native.Mathlib.Omega.{arith}
use Rattle.pack_rules.proofs.check_pack.Goals as goal

pub check_together-requires : goal.check_together-requires
check_together-requires c = let n = (inside 16 (length c.args.list.now / 3)).0 (sym c.beyond.ensures.0 ∙ c.if-beyond.false) in
    (omega (arith, n.1), sym c.check_sizes.ensures ∙ c.in_ok-check_sizes.was)

pub returns-in_err-check_sizes : goal.returns-in_err-check_sizes
returns-in_err-check_sizes c = let a = c.args in
    let p = err_from_is_err_and c.from_residual.result c.from_residual.ensures.1 in
    rw (p.1, p.2) (sym (pack-judged a.list.now a.cells.now a.marks.now a.room ∙ simp (sym c.beyond.ensures.0 ∙ c.if-beyond.false, sym c.check_sizes.ensures ∙ c.in_err-check_sizes.was)))

pub returns : goal.returns
returns c = let a = c.args in
    c.check_together.ensures ∙ sym (pack-judged a.list.now a.cells.now a.marks.now a.room ∙ simp (sym c.beyond.ensures.0 ∙ c.if-beyond.false, sym c.check_sizes.ensures ∙ c.in_ok-check_sizes.was))
