use mathlib.Core.Path.{◌≡◌, sym, ap, ◌∙◌}
use Prim.Native.Nat.{ℕ, ◌-◌}
use native.Mathlib.Omega.{arith}
use lib.ListN.{replicate}
use Rattle.tables.specs.Lists.{over}
use Rattle.tables.proofs.Over.{over_none}
use Rattle.scratch.proofs.Cells.{clear_short, clear_next, clear_all}
use Rattle.scratch.proofs.clear.Goals as goal

pub loop-i-init : goal.loop-i-init
loop-i-init c = let a = c.args in
    let none : a.from - a.from ≡ 0 = omega arith in
    (omega arith, sym (over_none a.cells.now a.from) ∙ ap (λ (n : ℕ). over a.cells.now a.from (replicate n 0)) (sym none))

pub loop-i-preserved : goal.loop-i-preserved
loop-i-preserved c = let a = c.args in
    let l = c.loop-i in
    (omega arith, clear_next a.cells.now a.from l.cells l.i l.invariant.1 (omega arith) (omega arith))

pub returns-after-loop-i : goal.returns-after-loop-i
returns-after-loop-i c = let a = c.args in
    clear_all a.cells.now a.from a.to c.loop-i.i c.loop-i.cells c.loop-i.invariant.1 (omega arith) (omega arith)

pub returns-else-to-cells : goal.returns-else-to-cells
returns-else-to-cells c = let a = c.args in
    sym (clear_short a.cells.now a.from a.to (omega arith))
