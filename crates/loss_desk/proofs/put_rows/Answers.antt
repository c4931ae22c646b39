use Prim.Native.Nat.{ℕ}
use mathlib.Core.Path.{◌≡◌, ap}
use native.Mathlib.Omega.{arith}
use Rattle.text.specs.Text.{joined}
use Rattle.text.proofs.Buffer.{puts_first, puts_next, puts_as}
use Rattle.loss_desk.specs.Lines.{line_at}
use Rattle.loss_desk.proofs.put_rows.Goals as goal

pub loop-row-init : goal.loop-row-init
loop-row-init c = let a = c.args in puts_first (line_at a.rows a.events a.cells.now a.scratch.now) a.out.now 0

pub loop-row-preserved : goal.loop-row-preserved
loop-row-preserved c = let a = c.args in
    let l = c.loop-row in
    puts_next (line_at a.rows a.events a.cells.now a.scratch.now) l.row l.invariant c.put_row-next.ensures

pub returns : goal.returns
returns c = let a = c.args in
    let l = c.loop-row in
    let e : a.rows ≡ l.row = omega arith in
    puts_as (ap (λ (n : ℕ). joined n (line_at a.rows a.events a.cells.now a.scratch.now)) e) l.invariant
