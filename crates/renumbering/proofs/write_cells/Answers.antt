use mathlib.Core.Path.{◌≡◌, sym, ◌∙◌}
use Prim.Native.Nat.{◌+◌, ◌*◌}
use lib.Arith.{digits_lt}
use native.Mathlib.Omega.{arith}
use Rattle.tables.proofs.Lists.{tabulate-length}
use Rattle.tables.proofs.Over.{over_none, over-all, tabulate-next}
use Rattle.renumbering.specs.Line.{target_of_new}
use Rattle.renumbering.proofs.write_cells.Goals as goal

pub loop-i-init : goal.loop-i-init
loop-i-init c =
    let none : 0 * c.args.m ≡ 0 = omega arith in
    rw none (sym (over_none c.args.out.now 0))

pub loop-a-preserved : goal.loop-a-preserved
loop-a-preserved c =
    let at : c.loop-i.i * c.args.m + (c.loop-a.a + 1) ≡ c.loop-i.i * c.args.m + c.loop-a.a + 1 = omega arith in
    rw at (tabulate-next _ _ c.args.out.now _ _ _ c.loop-a.invariant c.new_target.ensures (digits_lt c.loop-i-test.true c.loop-a-test.true) c.requires.3)

pub returns : goal.returns
returns c = let a = c.args in
    let all : c.loop-i.i ≡ a.count = omega arith in
    let F = target_of_new a.cells.now a.n a.m a.scratch.now in
    (rw all at c.loop-i.invariant) ∙ over-all a.out.now 0 _ (a.count * a.m) (omega (arith, tabulate-length (a.count * a.m) F))
